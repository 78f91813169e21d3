use Rattle.std.proofs.Common.{◌≡◌, ◌-◌, Bool, true, false, if◌then◌else◌, nat_lt, slice_get, inl, inr, refl, sym, ap, ◌∙◌}
use Rattle.std.specs.Prelude.{◌⊎◌, Option, Some, None}
use Rattle.rambo_config_map.specs.Maps.{entry_of}
use Rattle.rambo_config_map.specs.declared.entry.Entry.{Entry}
use Rattle.rambo_config_map.specs.declared.entry.Entry.TheVariants.{Unknown, Active, Removed}
use Rattle.rambo_bids.proofs.places.active_at.Goals as goal

pub entry-requires : goal.entry-requires
entry-requires g c = c.requires-raw.1

-- the configuration of an entry, if it has one
abbrev active_in : {Q : Type 0} → Entry Q → Option Q
active_in Unknown = None
active_in (Active q) = Some q
active_in Removed = None

active_is : {Q : Type 0} (removed : Bool) (q : Option Q) → active_in (if removed then Removed else entry_of q) ≡ (if removed then None else q)
active_is true q = refl
active_is false None = refl
active_is false (Some q) = refl

none_in : {Q : Type 0} (e : Entry Q) → (e ≡ Unknown) ⊎ (e ≡ Removed) → active_in e ≡ None
none_in e (inl is) = ap active_in is
none_in e (inr is) = ap active_in is

pub returns-in-Active : goal.returns-in-Active
returns-in-Active g c =
    let m = c.args.map.now in
    ap active_in (sym c.in-Active.is ∙ c.entry.ensures) ∙ active_is (nat_lt c.args.place m.floor) (slice_get m.configs (c.args.place - m.floor))

pub returns-in-Unknown : goal.returns-in-Unknown
returns-in-Unknown g c =
    let m = c.args.map.now in
    sym (none_in c.entry.result c.in-Unknown.is) ∙ ap active_in c.entry.ensures ∙ active_is (nat_lt c.args.place m.floor) (slice_get m.configs (c.args.place - m.floor))
