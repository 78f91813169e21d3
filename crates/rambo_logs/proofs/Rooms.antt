-- What there is room for
use Rattle.std.proofs.Common.{◌≡◌, ℕ, List, [], Option, Some, None, sym, ap, ◌∙◌, subst}
use Rattle.std.specs.Prelude.{slice_index_or}
use Rattle.std.specs.Option.{IsSomeAnd}
use Rattle.rambo_tag.specs.declared.keyed_version.KeyedVersion.{KeyedVersion}
use Rattle.rambo_logs.specs.declared.pending.Pending.{Pending}
use Rattle.rambo_logs.specs.declared.pending.Pending.TheVariants.{Nothing, Put, TakeOn}
use Rattle.rambo_logs.specs.declared.logs.Logs.TheInside.{Inside}
use Rattle.rambo_logs.specs.NodeLogs.{Room, Brought}
use Rattle.rambo_logs.specs.Stored.{copies_of}
use Rattle.rambo_logs.specs.Inside.{room_in, brought_in, IsReady, HasRoom, HasBrought}

-- for a copy
pub room_of : (l : Inside) (p : Pending) (name number : ℕ) → IsReady l p → p ≡ Put name number → HasRoom l name number
room_of l p name number h is = subst (IsReady l) is h

abbrev name_in : Option Room → ℕ
name_in None = 0
name_in (Some r) = r.name

abbrev key_in : Option Room → List ℕ
key_in None = []
key_in (Some r) = r.key

pub room_key : (keys : List (List ℕ)) (p : Pending) (own number name : ℕ) (key : List ℕ) → p ≡ Put own number → room_in keys p ≡ Some (record { name = name; key = key }) → slice_index_or keys number [] ≡ key
room_key keys p own number name key is h = ap (λ q. key_in (room_in keys q)) (sym is) ∙ ap key_in h

-- for copies that were brought
pub brought_to : (l : Inside) (p : Pending) (to : ℕ) → IsReady l p → IsSomeAnd (brought_in l p) (λ b. b.to ≡ to) → HasBrought l to
brought_to l Nothing to h some = absurd some
brought_to l (Put name number) to h some = absurd some
brought_to l (TakeOn own) to h some = subst (HasBrought l) some h

abbrev copies_in : Option Brought → List KeyedVersion
copies_in None = []
copies_in (Some b) = b.copies

pub brought_copies : (l : Inside) (p : Pending) (b : Brought) → brought_in l p ≡ Some b → copies_of l.puts.items l.lacked.items ≡ b.copies
brought_copies l Nothing b e = cc
brought_copies l (Put name number) b e = cc
brought_copies l (TakeOn own) b e = ap copies_in e
