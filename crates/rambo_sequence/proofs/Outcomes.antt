-- The sequence of a key, among all and alone
use Rattle.std.proofs.Common.{◌≡◌, true, false, cond, ◌||◌, List, [], ◌∷◌, map, bytes_eq, refl, sym, ap, ◌∙◌, subst, inl, inr, true≢false}
use Rattle.std.specs.List.{list_any}
use Rattle.rambo_tag.proofs.Keys.{bytes_eq-true}
use Rattle.rambo_history.specs.declared.event.CallId.{CallId}
use Rattle.rambo_history.specs.declared.event.Event.{Event}
use Rattle.rambo_history.specs.Calls.{key_of}
use Rattle.rambo_sequence.specs.declared.mark.Mark.{Mark}
use Rattle.rambo_sequence.specs.StoreOrders.{AreApart}
use Rattle.rambo_sequence.specs.Sequences.{SequenceOf, keys_of, with_mark, sorted_marks, sequence_of, sequences_of, sequence_in}
use Rattle.rambo_sequence.proofs.KeyLists.{Key, IsBelow, Rises, lt_apart, eq_false, Rises-keys_of, has_key, has_key-keys_of, bytes_eq-flip}
use Rattle.rambo_sequence.proofs.Members.{Member, member_stands}

in_map : (f : Key → List CallId) (ks : List Key) (key : Key)
    → sequence_in (map (λ (k : Key). record { key = k; calls = f k }) ks) key ≡ cond (has_key ks key) (f key) []
in_map f [] key = refl
in_map f (k ∷ ks) key =
    elim (bytes_eq k key) as (λ t. bytes_eq k key ≡ t → cond t (f k) (sequence_in (map (λ (k : Key). record { key = k; calls = f k }) ks) key) ≡ cond (t || has_key ks key) (f key) []) [
      | true ↦ λ e. ap f (bytes_eq-true k key e)
      | false ↦ λ e. in_map f ks key
    ] refl
    ∙ ap (λ t. cond (t || has_key ks key) (f key) []) (bytes_eq-flip k key)

unmarked : (h : List Event) (key : Key) (marks : List Mark) → list_any (λ m. bytes_eq key (key_of m.op)) marks ≡ false → sorted_marks h key marks ≡ []
unmarked h key [] none = refl
unmarked h key (m ∷ ms) none =
    elim (bytes_eq (key_of m.op) key) as (λ t. t || list_any (λ m. bytes_eq key (key_of m.op)) ms ≡ false → cond t (with_mark h m (sorted_marks h key ms)) (sorted_marks h key ms) ≡ []) [
      | true ↦ λ k. absurd (true≢false k)
      | false ↦ λ k. unmarked h key ms k
    ] (ap (λ t. t || list_any (λ m. bytes_eq key (key_of m.op)) ms) (bytes_eq-flip (key_of m.op) key) ∙ none)

sequence_of-unmarked : (h : List Event) (marks : List Mark) (key : Key) → has_key (keys_of marks) key ≡ false → sequence_of h marks key ≡ []
unfolding sequence_of
sequence_of-unmarked h marks key none = ap (map (λ (m : Mark). m.id)) (unmarked h key marks (sym (has_key-keys_of marks key) ∙ none))

-- the sequence of each key stands among the sequences of all keys, as the empty one where the key isn't marked
pub sequence_in-sequences_of : (h : List Event) (marks : List Mark) (key : Key) → sequence_in (sequences_of h marks) key ≡ sequence_of h marks key
unfolding sequences_of
sequence_in-sequences_of h marks key =
    in_map (sequence_of h marks) (keys_of marks) key
    ∙ elim (has_key (keys_of marks) key) as (λ t. has_key (keys_of marks) key ≡ t → cond t (sequence_of h marks key) [] ≡ sequence_of h marks key) [
      | true ↦ λ e. refl
      | false ↦ λ e. sym (sequence_of-unmarked h marks key e)
    ] refl

-- no two given sequences are of one key
below_apart : (f : Key → List CallId) (k : Key) (ks : List Key) → IsBelow k ks → (t : SequenceOf) → Member t (map (λ (k : Key). record { key = k; calls = f k }) ks) → bytes_eq k t.key ≡ false
below_apart f k [] b t m = absurd m
below_apart f k (j ∷ js) b t m = elim m [
  | inl e ↦ subst (λ (t : SequenceOf). bytes_eq k t.key ≡ false) e (eq_false k j (lt_apart k j b.0))
  | inr r ↦ below_apart f k js b.1 t r
]

all_apart : (f : Key → List CallId) (ks : List Key) → Rises ks → AreApart (map (λ (k : Key). record { key = k; calls = f k }) ks)
all_apart f [] r = tt
all_apart f (k ∷ ks) r = (λ t s. below_apart f k ks r.0 t (member_stands t _ s), all_apart f ks r.1)

pub sequences_apart : (h : List Event) (marks : List Mark) → AreApart (sequences_of h marks)
unfolding sequences_of
sequences_apart h marks = all_apart (sequence_of h marks) (keys_of marks) (Rises-keys_of marks)
