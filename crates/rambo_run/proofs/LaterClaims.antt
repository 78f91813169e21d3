-- Later phases read what was propagated, later sets take a greater tag, and no later phase lies below
use Rattle.std.proofs.Common.{◌≡◌, ℕ, ◌+◌, ◌≤◌, false, nat_eq, List, Some, None, take, refl, sym, ap, ◌∙◌, subst, inl, inr, arith, eq-eqb}
use Rattle.std.proofs.lemmas.Bool.{cases_lt, cond-true}
use Rattle.std.specs.FinMap as map
use Rattle.rambo_names.specs.Quorums.{QuorumSystem, IsSound}
use Rattle.rambo_tag.specs.Tags.{tag_of}
use Rattle.rambo_tag.proofs.TagOrder.{TagLe, TagLe-trans_lt, tag_lt-true, tag_lt-false}
use Rattle.rambo_history.specs.declared.event.CallId.{CallId}
use Rattle.rambo_history.specs.Calls.{key_of, is_get}
use Rattle.rambo_calls.specs.declared.stage.Stage.TheVariants.{Query}
use Rattle.rambo_calls.specs.Calls.{CallState, kept_in, find_call}
use Rattle.rambo_node.specs.Changes.{stage_met, advanced, made_by}
use Rattle.rambo_node.specs.Nodes.{open_call}
use Rattle.rambo_node.specs.Operations.{taken, query_answered}
use Rattle.rambo_node.specs.Acts as act
use Rattle.rambo_node.specs.Steps.{Step}
use Rattle.rambo_node.specs.declared.step.StepOf.TheVariants as step
use Rattle.rambo_run.specs.Worlds.{WorldState, node_at}
use Rattle.rambo_run.specs.Steps.{turn_by, turn_at, turn}
use Rattle.rambo_run.specs.Runs.{run}
use Rattle.rambo_run.specs.Claims.{IsDone}
use Rattle.rambo_run.specs.Configurations.{IsLater, LaterPhasesRead, Raises, LaterSetsRise, MeetsOrLiesAbove, LaterPhasesMeet}
use Rattle.rambo_run.proofs.Lists.{Member, member_stands, stands_member, find_member, put_member}
use Rattle.rambo_run.proofs.Held.{number_up, names}
use Rattle.rambo_run.proofs.Numbers.{Numbered, numbered_at}
use Rattle.rambo_run.proofs.Phases.{CallAt, calls_at}
use Rattle.rambo_run.proofs.LaterPhases.{Done, done_at, reads, meets_or_above}
use Rattle.rambo_run.proofs.Books.{moved_call}
use Rattle.rambo_run.proofs.Tags.{new_tag}
use Rattle.rambo_run.proofs.Decisions.{next_world}
use Rattle.rambo_run.proofs.Replays.{own_put}
use Rattle.rambo_run.proofs.CollectionClaims.{then, Letter, runs, is_then}

module _ {Q : Type 0} (s : QuorumSystem Q) (law : IsSound s) (founders : Q) (ss : List (Step Q)) (m n : ℕ) (c : CallState Q) (u k : ℕ) (d : CallState Q) (l : IsLater s founders ss m n c u k d) where
  teller : CallAt (Letter s founders ss) (then s founders ss) m n c
  teller = calls_at s founders (then s founders ss) (runs s founders ss) m n c (subst (λ x. Member c x.calls) (is_then s founders ss m n l.teller l.teller_is) (member_stands c l.teller.calls l.tells))

  reader : CallAt (Letter s founders ss) (then s founders ss) u k d
  reader = calls_at s founders (then s founders ss) (runs s founders ss) u k d (subst (λ x. Member d x.calls) (is_then s founders ss u k l.reader l.reader_is) (member_stands d l.reader.calls l.asks))

  -- the phase began after the propagation was met
  later : m ≤ reader.began
  later = elim (cases_lt reader.began m) [
    | inr a ↦ a
    | inl a ↦ absurd (let b = number_up s founders (then s founders ss) (runs s founders ss) reader.began m k (omega (arith, a)) in
        omega (arith, b, reader.phase.took, l.later, ap (λ y. y.number) (is_then s founders ss m k l.before l.before_is)))
  ]

  abbrev done : Done s (then s founders ss) m (key_of c.op) (tag_of (kept_in c.stage))
  done = done_at s (then s founders ss) teller.began m n c.phase teller.phase l.told_met (key_of c.op) (tag_of (kept_in c.stage)) (teller.kept l.told)

  pub read : TagLe (tag_of (kept_in c.stage)) (tag_of (map.get l.reader.registers (key_of c.op)))
  read = subst (λ z. TagLe (tag_of (kept_in c.stage)) (tag_of (map.get z.registers (key_of c.op)))) (sym (is_then s founders ss u k l.reader l.reader_is))
      (reads s law founders (then s founders ss) (runs s founders ss) (key_of c.op) (tag_of (kept_in c.stage)) m done reader.began u k d.phase reader.phase later l.asked_met)

  -- the advance of a query that is met
  abbrev id : CallId
  id = record { name = k; number = d.number }

  abbrev world : WorldState Q
  world = run s founders (take u ss)

  named : l.reader.name ≡ k
  named = ap (λ x. x.name) (is_then s founders ss u k l.reader l.reader_is) ∙ names s founders (then s founders ss) (runs s founders ss) u k

  found : open_call l.reader id ≡ Some d
  found =
      let numbered : Numbered l.reader = subst Numbered (sym (is_then s founders ss u k l.reader l.reader_is)) (numbered_at s founders (then s founders ss) (runs s founders ss) u k) in
      cond-true (nat_eq k l.reader.name) (find_call d.number l.reader.calls) None (eq-eqb k l.reader.name (sym named))
      ∙ find_member l.reader.calls d numbered.single (member_stands d l.reader.calls l.asks)

  advances : d.stage ≡ Query → made_by l.reader (act.Advance id) ≡ stage_met l.reader id d Query
  unfolding made_by
  advances q = ap (advanced l.reader id) found ∙ ap (stage_met l.reader id d) q

  next : d.stage ≡ Query → IsDone s founders ss u (step.Advance id) → node_at (run s founders (take (u + 1) ss)) k ≡ Some (query_answered l.reader d)
  unfolding turn
  next q h =
      ap (λ w. node_at w k) (next_world s founders ss u (step.Advance id) h.0 h.1 ∙ ap (λ o. (turn_at world k o (act.Advance id)).world) l.reader_is ∙ ap (λ made. (turn_by world k made).world) (advances q))
      ∙ own_put world (turn_by world k (stage_met l.reader id d Query)).world k l.reader (query_answered l.reader d) l.reader_is refl

  raised : key_of d.op ≡ key_of c.op → is_get d.op ≡ false → d.stage ≡ Query → IsDone s founders ss u (step.Advance id) → Raises s founders ss (u + 1) k (tag_of (kept_in c.stage)) d
  unfolding query_answered
  raised key g q h =
      let new = moved_call l.reader d in
      let t = new_tag l.reader d.op g in
      let old : TagLe (tag_of (kept_in c.stage)) (tag_of (map.get l.reader.registers (key_of d.op))) = subst (λ key. TagLe (tag_of (kept_in c.stage)) (tag_of (map.get l.reader.registers key))) (sym key) read in
      record {
        node = query_answered l.reader d;
        node_is = next q h;
        call = new;
        stands = stands_member new (query_answered l.reader d).calls (put_member d.number new d l.reader.calls (member_stands d l.reader.calls l.asks) refl);
        number = refl;
        op = refl;
        tells = refl;
        greater = tag_lt-true (tag_of (kept_in c.stage)) (tag_of (taken l.reader d.op))
            (TagLe-trans_lt (tag_of (kept_in c.stage)) (tag_of (map.get l.reader.registers (key_of d.op))) (tag_of (taken l.reader d.op)) old (inl (omega (arith, t.1))));
      }

  meets : MeetsOrLiesAbove c.phase d.phase
  meets = meets_or_above s law founders (then s founders ss) (runs s founders ss) (key_of c.op) (tag_of (kept_in c.stage)) m done reader.began u k d.phase reader.phase later l.asked_met

-- a phase that begins after a propagation was met, and is met, reads at least its tag
pub later_phases_read : {Q : Type 0} (s : QuorumSystem Q) → IsSound s → LaterPhasesRead s
later_phases_read s law founders ss m n c u k d l =
    tag_lt-false (tag_of (map.get l.reader.registers (key_of c.op))) (tag_of (kept_in c.stage)) (read s law founders ss m n c u k d l)

-- a set that reads it takes a greater one
pub later_sets_rise : {Q : Type 0} (s : QuorumSystem Q) → IsSound s → LaterSetsRise s
later_sets_rise s law founders ss m n c u k d l key g q h = raised s law founders ss m n c u k d l key g q h

-- it has a place in common with the propagation, or lies above it
pub later_phases_meet : {Q : Type 0} (s : QuorumSystem Q) → IsSound s → LaterPhasesMeet s
later_phases_meet s law founders ss m n c u k d l = meets s law founders ss m n c u k d l
