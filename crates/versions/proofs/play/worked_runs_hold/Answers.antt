-- By computing.
use Rattle.std.proofs.Common.{refl}
use Rattle.versions.specs.Plain.{answer_of, state_after, laid_over_all}
use Rattle.versions.proofs.play.worked_runs_hold.Goals as goal

pub returns : goal.returns
unfolding answer_of state_after laid_over_all
returns c = record {
  last_address = refl;
  one_of_a_class = refl;
  equal_word_squashes = refl;
  version_between_hides = refl;
  mark_outlives_store = refl;
  own_word_sets_no_mark = refl;
  replaced_is_not_held = refl;
  head_rules = refl;
  restart_after_commit = refl;
  replaced_mark_is_gone = refl;
  processor_comes_first = refl;
  one_task_a_processor = refl;
  task_comes_next = refl;
  address_comes_next = refl;
  sixteen_classes = refl;
  own_word_takes_class = refl;
  not_head_before_not_held = refl;
  commit_counts_own_words = refl;
}
