-- Calls with what they are ordered by
use Rattle.std.specs.Prelude.{ℕ, zero, suc, Bool, if◌then◌else◌, List, map, filter}
use Rattle.std.specs.Option.{unwrap_or}
use Rattle.std.specs.Str.{bytes_eq}
use Rattle.std.specs.Ordering.{nat_cmp, ordering_then, is_lt}
use Rattle.std.specs.declared.cmp.Ordering.{Ordering}
use Rattle.rambo_tag.specs.Tags.{no_tag, tag_of}
use Rattle.rambo_history.specs.declared.operation.Op.{Op}
use Rattle.rambo_history.specs.declared.event.Event.{Event}
use Rattle.rambo_history.specs.Calls.{key_of, is_get}
use Rattle.rambo_sequence.specs.declared.mark.Mark.{Mark}
use Rattle.rambo_sequence.specs.declared.mark.TaggedPlace.{TaggedPlace}
use Rattle.rambo_sequence.specs.declared.ranking.SortKey.{SortKey}
use Rattle.rambo_sequence.specs.declared.ranking.RankedCall.{RankedCall}
use Rattle.rambo_sequence.specs.Orders.{ordered}
use Rattle.rambo_sequence.specs.Sequences.{rank}

-- by tag, then by rank
abbrev pub sort_key_of : List Event → Mark → SortKey
sort_key_of h m = record { sequence = (tag_of m.kept).sequence; writer = (tag_of m.kept).name; rank = rank h m }

-- the same, as the place of the mark's call and its tag tell it
abbrev pub sort_key_at : Op → TaggedPlace → SortKey
sort_key_at o p = record { sequence = (unwrap_or p.tag no_tag).sequence; writer = (unwrap_or p.tag no_tag).name; rank = if is_get o then suc p.place else zero }

abbrev pub ranked : List Event → Mark → RankedCall
ranked h m = record { sort_key = sort_key_of h m; id = m.id }

-- the calls of a key, in the order of their marks
abbrev pub ranked_calls : List Event → List Mark → List ℕ → List RankedCall
ranked_calls h marks key = map (ranked h) (filter (λ m. bytes_eq (key_of m.op) key) marks)

-- by sequence number, then by writer, then by rank
abbrev pub sort_key_cmp : SortKey → SortKey → Ordering
sort_key_cmp a b = ordering_then (nat_cmp a.sequence b.sequence) (ordering_then (nat_cmp a.writer b.writer) (nat_cmp a.rank b.rank))

abbrev pub is_before : RankedCall → RankedCall → Bool
is_before a b = is_lt (sort_key_cmp a.sort_key b.sort_key)

-- the calls in order
abbrev pub sorted_calls : List RankedCall → List RankedCall
sorted_calls = ordered is_before
