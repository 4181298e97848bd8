use Rattle.event_lists.proofs.FenceLemmas.{row_lasts, complete_lasts, sent_lasts, handled_lasts}
use Rattle.event_lists.proofs.lasting.rows_last.Goals as goal

pub returns-clause-rows : goal.returns-clause-rows
returns-clause-rows c = λ ranks workers old log h b q f p row i. row_lasts ranks workers old log h b q f p row i

pub returns-clause-passes : goal.returns-clause-passes
returns-clause-passes c = λ ranks workers old log h b f p done. complete_lasts ranks workers old log h b f p done

pub returns-clause-sent : goal.returns-clause-sent
returns-clause-sent c = λ ranks workers old log h b f p done. sent_lasts ranks workers old log h b f p done

pub returns-clause-handled : goal.returns-clause-handled
returns-clause-handled c = λ ranks workers old log h b f p done. handled_lasts ranks workers old log h b f p done
