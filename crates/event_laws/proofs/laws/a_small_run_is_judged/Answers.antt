use Rattle.event_laws.proofs.SmallRunLemmas.{run, refused_start, refused_place, refused_give, refused_bin, refused_end}
use Rattle.event_laws.proofs.laws.a_small_run_is_judged.Goals as goal

pub returns-clause-whole_run : goal.returns-clause-whole_run
returns-clause-whole_run c = run

pub returns-clause-started_twice : goal.returns-clause-started_twice
returns-clause-started_twice c = refused_start

pub returns-clause-effect_left_out : goal.returns-clause-effect_left_out
returns-clause-effect_left_out c = refused_place

pub returns-clause-given_before_the_put : goal.returns-clause-given_before_the_put
returns-clause-given_before_the_put c = refused_give

pub returns-clause-put_in_another_bin : goal.returns-clause-put_in_another_bin
returns-clause-put_in_another_bin c = refused_bin

pub returns-clause-ran_before_the_give : goal.returns-clause-ran_before_the_give
returns-clause-ran_before_the_give c = refused_end
