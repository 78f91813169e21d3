-- The one order of a run is proper for all keys
use Rattle.std.proofs.Common.{ℕ, List, sym, subst}
use Rattle.rambo_names.specs.Quorums.{QuorumSystem, IsSound}
use Rattle.rambo_history.specs.Proper.{IsProper}
use Rattle.rambo_sequence.specs.Sequences.{sequence_in}
use Rattle.rambo_sequence.specs.StoreOrders.{NoTwice, all_calls}
use Rattle.rambo_sequence.proofs.GivenOrder.{order_is}
use Rattle.rambo_sequence.proofs.MergedOrder.{all_proper, proper_once}
use Rattle.rambo_sequence.proofs.Outcomes.{sequence_in-sequences_of, sequences_apart}
use Rattle.rambo_node.specs.Steps.{Step}
use Rattle.rambo_run.specs.Claims.{HasOneOrder}
use Rattle.rambo_run.specs.Runs.{run, given_sequences, given_order}
use Rattle.rambo_run.proofs.EveryRun.{is_atomic}
use Rattle.rambo_run.proofs.WellFormed.{run_well_formed}

module _ {Q : Type 0} (s : QuorumSystem Q) (law : IsSound s) (founders : Q) (steps : List (Step Q)) where
  each_proper : (key : List ℕ) → IsProper (run s founders steps).history key (sequence_in (given_sequences (run s founders steps)) key)
  each_proper key =
      let w = run s founders steps in
      subst (IsProper w.history key) (sym (sequence_in-sequences_of w.history w.marks key)) (is_atomic s law founders steps key)

  -- no call stands twice in its sequences
  pub calls_once : NoTwice (all_calls (given_sequences (run s founders steps)))
  calls_once =
      let w = run s founders steps in
      proper_once w.history (given_sequences w) (sequences_apart w.history w.marks) each_proper

  pub has_one_order : HasOneOrder (run s founders steps)
  has_one_order =
      let w = run s founders steps in
      let ss = given_sequences w in
      record {
        once = calls_once;
        is_order = order_is w.history ss calls_once;
        proper = all_proper w.history ss (given_order w) (run_well_formed s founders steps) (sequences_apart w.history w.marks) each_proper (order_is w.history ss calls_once);
      }
