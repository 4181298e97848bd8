use Rattle.std.proofs.Common.{◌<◌, ◌∙◌, sym, arith, length, map, take, length-take}
use Rattle.std.proofs.Math.Seq.{take-set-lt}
use Rattle.std.proofs.lemmas.List.{take_more_set, length-map}
use Rattle.std.proofs.lemmas.List.Quantifiers.{position-Some}
use Rattle.job_data.specs.Data.{data_of}
use Rattle.tree_model.specs.Signatures.{writes}
use Rattle.job_data.specs.Writers.{command_at}
use Rattle.job_words.specs.NameBytes.{bytes_of}
use Rattle.job_data.proofs.WriterLemmas.{AreLastWriters_known, AreLastWriters_new, AreLastWriters_same, room_new}
use Rattle.job_data.proofs.history.History.add_writer.Goals as goal

pub bounds-self-trees : goal.bounds-self-trees
bounds-self-trees c =
    let few = room_new (map data_of c.args.before.now) (take c.args.self.now.trees c.args.self.now.places) (bytes_of c.in-Some.name) (data_of c.args.command.now) c.requires.recalls.writers (sym c.in-Some.ensures) (sym (rw c.bytes.ensures at c.writer_of-known.ensures) ∙ c.in-None.is) c.requires.room in
    omega (arith, few, length-take c.args.self.now.trees c.args.self.now.places)

pub returns-in-Some-known-clause-writers : goal.returns-in-Some-known-clause-writers
returns-in-Some-known-clause-writers c =
    let before = map data_of c.args.before.now in
    let places = take c.args.self.now.trees c.args.self.now.places in
    let found = sym (rw c.bytes.ensures at c.writer_of-known.ensures) ∙ c.in-Some-known.is in
    let there = position-Some (λ place. writes (bytes_of c.in-Some.name) (command_at before place)) places c.in-Some-known.at 0 found in
    let below : c.in-Some-known.at < c.args.self.now.trees = omega (arith, there.0, length-take c.args.self.now.trees c.args.self.now.places) in
    rw (take-set-lt c.args.self.now.trees c.args.self.now.places c.in-Some-known.at (length c.args.before.now) below, ← length-map c.args.before.now data_of)
    (AreLastWriters_known before places (bytes_of c.in-Some.name) (data_of c.args.command.now) c.in-Some-known.at c.requires.recalls.writers (sym c.in-Some.ensures) found)

pub returns-in-None-clause-writers : goal.returns-in-None-clause-writers
returns-in-None-clause-writers c =
    let before = map data_of c.args.before.now in
    let places = take c.args.self.now.trees c.args.self.now.places in
    let found = sym (rw c.bytes.ensures at c.writer_of-known.ensures) ∙ c.in-None.is in
    let few = room_new before places (bytes_of c.in-Some.name) (data_of c.args.command.now) c.requires.recalls.writers (sym c.in-Some.ensures) found c.requires.room in
    let below : c.args.self.now.trees < length c.args.self.now.places = omega (arith, few, length-take c.args.self.now.trees c.args.self.now.places) in
    rw (take_more_set c.args.self.now.places c.args.self.now.trees (length c.args.before.now) below, ← length-map c.args.before.now data_of)
    (AreLastWriters_new before places (bytes_of c.in-Some.name) (data_of c.args.command.now) c.requires.recalls.writers (sym c.in-Some.ensures) found)

pub returns-in-None-clause-within : goal.returns-in-None-clause-within
returns-in-None-clause-within c =
    let few = room_new (map data_of c.args.before.now) (take c.args.self.now.trees c.args.self.now.places) (bytes_of c.in-Some.name) (data_of c.args.command.now) c.requires.recalls.writers (sym c.in-Some.ensures) (sym (rw c.bytes.ensures at c.writer_of-known.ensures) ∙ c.in-None.is) c.requires.room in
    omega (arith, few, length-take c.args.self.now.trees c.args.self.now.places)

pub returns-in_default-clause-writers : goal.returns-in_default-clause-writers
returns-in_default-clause-writers c =
    AreLastWriters_same (map data_of c.args.before.now) (take c.args.self.now.trees c.args.self.now.places) (data_of c.args.command.now) c.requires.recalls.writers (sym c.in_default.ensures)
