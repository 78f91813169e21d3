use Rattle.std.proofs.Common.{◌≡◌, ◌<◌, ◌≤◌, Bool, true, false, if◌then◌else◌, Some, None, sym, ap, ◌∙◌, subst}
use Rattle.std.proofs.lemmas.Bool.{lt-ltb, le-ltb}
use Rattle.rambo_names.specs.Quorums.{QuorumSystem}
use Rattle.rambo_config_map.specs.Maps.{MapState}
use Rattle.rambo_gc.specs.declared.gc_move.GcMove.TheVariants.{Done}
use Rattle.rambo_gc.specs.Collections.{CollectionState, is_met, next_move, move_of}
use Rattle.rambo_gc.proofs.collection.Collection.would_advance.Goals as goal

-- a place that is removed already
removed : {Q : Type 0} (s : QuorumSystem Q) (m : MapState Q) (g : CollectionState) → g.place < m.floor → Some Done ≡ move_of s m g
removed s m g h =
    sym (ap (λ t. if t then Some Done else (if is_met s m g then Some (next_move g.stage) else None)) (lt-ltb g.place m.floor h))

-- and one that isn't
kept : {Q : Type 0} (s : QuorumSystem Q) (m : MapState Q) (g : CollectionState) (met : Bool) → m.floor ≤ g.place → is_met s m g ≡ met
    → (if met then Some (next_move g.stage) else None) ≡ move_of s m g
kept s m g met h e =
    sym (ap (λ t. if t then Some Done else (if is_met s m g then Some (next_move g.stage) else None)) (le-ltb g.place m.floor h)
    ∙ ap (λ t. if t then Some (next_move g.stage) else None) e)

pub floor-requires : goal.floor-requires
floor-requires g c = c.requires-raw.1

pub is_met-requires : goal.is_met-requires
is_met-requires g c = c.requires-raw.1

pub returns-then-self-floor : goal.returns-then-self-floor
returns-then-self-floor g c =
    removed g.Q.Quorums.system c.args.map.now c.args.self.now
    (subst (λ v. v.place < c.args.map.now.floor) c.self.view_is (subst (λ n. c.self.inside.place < n) c.floor.ensures c.if-self-floor.true))

pub returns-then-not-is_met : goal.returns-then-not-is_met
returns-then-not-is_met g c =
    kept g.Q.Quorums.system c.args.map.now c.args.self.now false
    (subst (λ v. c.args.map.now.floor ≤ v.place) c.self.view_is (subst (λ n. n ≤ c.self.inside.place) c.floor.ensures c.if-self-floor.false))
    (sym c.is_met.ensures ∙ c.if-not-is_met.true)

pub returns-in-First : goal.returns-in-First
returns-in-First g c =
    sym (ap (λ t. Some (next_move t)) (sym (ap (λ v. v.stage) c.self.view_is) ∙ c.in-First.is))
    ∙ kept g.Q.Quorums.system c.args.map.now c.args.self.now true
    (subst (λ v. c.args.map.now.floor ≤ v.place) c.self.view_is (subst (λ n. n ≤ c.self.inside.place) c.floor.ensures c.if-self-floor.false))
    (sym c.is_met.ensures ∙ c.if-not-is_met.false)

pub returns-in-Second : goal.returns-in-Second
returns-in-Second g c =
    sym (ap (λ t. Some (next_move t)) (sym (ap (λ v. v.stage) c.self.view_is) ∙ c.in-Second.is))
    ∙ kept g.Q.Quorums.system c.args.map.now c.args.self.now true
    (subst (λ v. c.args.map.now.floor ≤ v.place) c.self.view_is (subst (λ n. n ≤ c.self.inside.place) c.floor.ensures c.if-self-floor.false))
    (sym c.is_met.ensures ∙ c.if-not-is_met.false)
