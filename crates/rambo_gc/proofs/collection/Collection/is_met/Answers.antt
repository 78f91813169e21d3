use Rattle.std.proofs.Common.{◌≡◌, ◌⊎◌, ◌-◌, Bool, true, false, nat_lt, if◌then◌else◌, slice_get, Option, Some, None, refl, sym, ap, ◌∙◌, inl, inr}
use Rattle.rambo_names.specs.Names.{NameSet}
use Rattle.rambo_names.specs.Quorums.{QuorumSystem}
use Rattle.rambo_config_map.specs.declared.entry.Entry.TheVariants as entry
use Rattle.rambo_config_map.specs.Maps.{active_at, entry_of}
use Rattle.rambo_gc.specs.Collections.{has_quorum, asked_place, is_met}
use Rattle.rambo_gc.proofs.collection.Collection.is_met.Goals as goal
use Rattle.rambo_gc.proofs.collection.Collection.is_met.Goals.{in-First, in-Second}

-- an active entry has the active configuration
active : {Q : Type 0} (removed : Bool) (o : Option Q) (q : Q) → (if removed then entry.Removed else entry_of o) ≡ entry.Active q
    → Some q ≡ (if removed then None else o)
active true o q e = cc
active false None q e = cc
active false (Some r) q e = cc

-- and at any other there is none
inactive : {Q : Type 0} (s : QuorumSystem Q) (who : NameSet) (removed : Bool) (o : Option Q)
    → ((if removed then entry.Removed else entry_of o) ≡ entry.Unknown) ⊎ ((if removed then entry.Removed else entry_of o) ≡ entry.Removed)
    → false ≡ has_quorum s (if removed then None else o) who
inactive s who true o e = refl
inactive s who false None e = refl
inactive s who false (Some q) (inl e) = cc
inactive s who false (Some q) (inr e) = cc

pub overflow_add-asked : goal.overflow_add-asked
overflow_add-asked g c = record { fits = c.self.invariant }

pub entry-requires : goal.entry-requires
entry-requires g c = c.requires-raw.1

pub returns-in-Active : goal.returns-in-Active
returns-in-Active g c =
    let s = g.Q.Quorums.system in
    let map = c.args.map.now in
    let asked : c.match-self.asked ≡ asked_place c.self.inside.stage c.self.inside.place = elim c.match-self.branch [
      | in-First w ↦ w.asked-is ∙ sym (ap (λ t. asked_place t c.self.inside.place) w.in-First.is)
      | in-Second w ↦ w.asked-is ∙ sym (ap (λ t. asked_place t c.self.inside.place) w.in-Second.is)
    ] in
    c.is_quorum.ensures
    ∙ ap (λ o. has_quorum s o c.self.inside.repliers)
    (active (nat_lt c.match-self.asked map.floor) (slice_get map.configs (c.match-self.asked - map.floor)) c.in-Active.config (sym c.entry.ensures ∙ c.in-Active.is))
    ∙ ap (λ p. has_quorum s (active_at map p) c.self.inside.repliers) asked ∙ ap (is_met s map) c.self.view_is

pub returns-in-Unknown : goal.returns-in-Unknown
returns-in-Unknown g c =
    let s = g.Q.Quorums.system in
    let map = c.args.map.now in
    let asked : c.match-self.asked ≡ asked_place c.self.inside.stage c.self.inside.place = elim c.match-self.branch [
      | in-First w ↦ w.asked-is ∙ sym (ap (λ t. asked_place t c.self.inside.place) w.in-First.is)
      | in-Second w ↦ w.asked-is ∙ sym (ap (λ t. asked_place t c.self.inside.place) w.in-Second.is)
    ] in
    inactive s c.self.inside.repliers (nat_lt c.match-self.asked map.floor) (slice_get map.configs (c.match-self.asked - map.floor))
    (elim c.in-Unknown.is [ inl e ↦ inl (sym c.entry.ensures ∙ e) | inr e ↦ inr (sym c.entry.ensures ∙ e) ])
    ∙ ap (λ p. has_quorum s (active_at map p) c.self.inside.repliers) asked ∙ ap (is_met s map) c.self.view_is
