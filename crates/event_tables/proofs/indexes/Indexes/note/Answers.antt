use Rattle.event_tables.proofs.indexes.Indexes.note.Goals as goal

pub returns : goal.returns
returns c = λ ranks workers log legal short shows keeps. record {
  lanes = c.note.ensures ranks workers log legal short keeps.items keeps.lanes;
  items = c.note-2.ensures ranks workers log legal shows keeps.items;
  futures = c.note-4.ensures log shows keeps.futures;
  lacking = c.note-3.ensures ranks workers log legal short shows keeps.futures keeps.lacking;
  counts = c.note-5.ensures log short keeps.counts;
  rows = c.note_row.ensures ranks workers log legal shows keeps.rows;
  receipts = c.note_receipt.ensures c.args.lane log keeps.receipts;
  puts = c.note-6.ensures log keeps.puts;
}
