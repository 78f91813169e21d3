-- Texts that are written piece by piece
use Rattle.std.proofs.Common.{◌≡◌, ◌⊎◌, inl, inr, ◌≤◌, ◌<◌, ℕ, zero, suc, ◌+◌, min, max, List, [], ◌∷◌, ◌++◌, length, take, drop, get_or, slice_set, slice_index_or, length-append, refl, sym, ap, subst, ◌∙◌, append_assoc, append-nil, arith}
use Rattle.std.specs.Prelude.{Option}
use Rattle.std.specs.Io.KnownBytes.{Appends}
use Rattle.std.proofs.KnownBytes.{Appends-nil, Appends-trans}
use Rattle.std.proofs.lemmas.List.{drop_more, drop_all, take_all, take-append-le, drop-append-le, length-drop}
use Rattle.rambo_atomic.specs.Streams.{Begins}
use Rattle.rambo_history.specs.declared.event.Event.{Event}
use Rattle.rambo_check.specs.Lines.{Happened, item_line}
use Rattle.rambo_outcome.specs.declared.notes.Note.{Note}
use Rattle.rambo_outcome.specs.Notes.{NoteState, joined, with_text, events_text, woven, notes_in, grown, bytes_in, event_bytes, most_bytes, HasRoom, Moves}

-- nothing was written yet
pub moves_none : (old : Option (List ℕ)) (text : List ℕ) → Moves old old text text
moves_none old text = record { gone = []; written = Appends-nil old; whole = refl }

-- some of what waits was written
pub moves_then : (old now next : Option (List ℕ)) (text waits left : List ℕ) → Moves old now text waits → Moves now next waits left → Moves old next text left
moves_then old now next text waits left m n = record {
  gone = m.gone ++ n.gone;
  written = Appends-trans old now next m.gone n.gone m.written n.written;
  whole = m.whole ∙ ap (λ t. m.gone ++ t) n.whole ∙ sym (append_assoc m.gone n.gone left);
}

-- or a beginning of it
pub stops_then : (old now next : Option (List ℕ)) (text waits : List ℕ) → Moves old now text waits → Begins now next waits → Begins old next text
stops_then old now next text waits m b = (
  m.gone ++ b.0,
  b.1,
  m.whole ∙ ap (λ t. m.gone ++ t) b.2 ∙ sym (append_assoc m.gone b.0 b.1),
  Appends-trans old now next m.gone b.0 m.written b.3,
)

-- or all
pub ends_then : (old now next : Option (List ℕ)) (text waits : List ℕ) → Moves old now text waits → Appends now next waits → Appends old next text
ends_then old now next text waits m a = subst (Appends old next) (sym m.whole) (Appends-trans old now next m.gone waits m.written a)

-- what waits is the same text
pub moves_as : (old now : Option (List ℕ)) (text waits left : List ℕ) → waits ≡ left → Moves old now text waits → Moves old now text left
moves_as old now text waits left is m = subst (Moves old now text) is m

-- the same of a text that goes on
pub moves_more : (old now : Option (List ℕ)) (text longer waits rest : List ℕ) → longer ≡ text ++ rest → Moves old now text waits → Moves old now longer (waits ++ rest)
moves_more old now text longer waits rest is m = record {
  gone = m.gone;
  written = m.written;
  whole = is ∙ ap (λ t. t ++ rest) m.whole ∙ append_assoc m.gone waits rest;
}

pub begins_more : (old now : Option (List ℕ)) (text longer rest : List ℕ) → longer ≡ text ++ rest → Begins old now text → Begins old now longer
begins_more old now text longer rest is b = (b.0, b.1 ++ rest, is ∙ ap (λ t. t ++ rest) b.2 ∙ append_assoc b.0 b.1 rest, b.3)

-- some of the front of what waits was written
pub moves_on : (old now next : Option (List ℕ)) (text waits left rest : List ℕ) → Moves old now text (waits ++ rest) → Moves now next waits left → Moves old next text (left ++ rest)
moves_on old now next text waits left rest m n = moves_then old now next text (waits ++ rest) (left ++ rest) m (moves_more now next waits (waits ++ rest) left rest refl n)

-- or a beginning of it
pub stops_on : (old now next : Option (List ℕ)) (text waits rest : List ℕ) → Moves old now text (waits ++ rest) → Begins now next waits → Begins old next text
stops_on old now next text waits rest m b = stops_then old now next text (waits ++ rest) m (begins_more now next waits (waits ++ rest) rest refl b)

-- a piece was written, and then some bytes
pub bytes_out : (old now next : Option (List ℕ)) (piece left bytes : List ℕ) → Moves old now piece left → left ≡ [] → Appends now next bytes → Moves old next (piece ++ bytes) left
bytes_out old now next piece left bytes m none a = record {
  gone = m.gone ++ bytes;
  written = Appends-trans old now next m.gone bytes m.written a;
  whole = ap (λ t. t ++ bytes) (m.whole ∙ ap (λ l. m.gone ++ l) none ∙ append-nil m.gone) ∙ sym (append-nil (m.gone ++ bytes)) ∙ ap (λ l. (m.gone ++ bytes) ++ l) (sym none);
}

-- or a beginning of these
pub bytes_begun : (old now next : Option (List ℕ)) (piece left bytes : List ℕ) → Moves old now piece left → left ≡ [] → Begins now next bytes → Begins old next (piece ++ bytes)
bytes_begun old now next piece left bytes m none b =
    stops_then old now next (piece ++ bytes) bytes (moves_as old now (piece ++ bytes) (left ++ bytes) bytes (ap (λ l. l ++ bytes) none) (moves_more old now piece (piece ++ bytes) left bytes refl m)) b

-- the next event comes to what waits
pub event_on : (es : List Event) (i : ℕ) (d : Event) (waits longer : List ℕ) → i < length es → longer ≡ waits ++ item_line (Happened (get_or es i d))
    → waits ++ events_text (drop i es) ≡ longer ++ events_text (drop (i + 1) es)
event_on es i d waits longer below is =
    let rest = events_text (drop (i + 1) es) in
    ap (λ l. waits ++ events_text l) (drop_more es i d below) ∙ sym (append_assoc waits (item_line (Happened (get_or es i d))) rest) ∙ ap (λ t. t ++ rest) (sym is)

pub events_out : (es : List Event) (i : ℕ) (waits : List ℕ) → length es ≤ i → waits ++ events_text (drop i es) ≡ waits
events_out es i waits all = ap (λ l. waits ++ events_text l) (drop_all i es all) ∙ append-nil waits

-- no event spells more than the most
pub most_at : (es : List Event) (i : ℕ) (d : Event) → i < length es → event_bytes (get_or es i d) ≤ most_bytes es
most_at [] i d below = absurd (omega (arith, below))
most_at (e ∷ es) zero d below = omega arith
most_at (e ∷ es) (suc i) d below = let rest = most_at es i d (omega (arith, below)) in omega (arith, rest)

pub most_take : (n : ℕ) (es : List Event) → most_bytes (take n es) ≤ most_bytes es
most_take zero es = omega arith
most_take (suc n) [] = omega arith
most_take (suc n) (e ∷ es) = let rest = most_take n es in omega (arith, rest)

pub most_drop : (n : ℕ) (es : List Event) → most_bytes (drop n es) ≤ most_bytes es
most_drop zero es = omega arith
most_drop (suc n) [] = omega arith
most_drop (suc n) (e ∷ es) = let rest = most_drop n es in omega (arith, rest)

-- the most of some events and of those behind
pub most_more : (es : List Event) (i : ℕ) (d : Event) (most : ℕ) → i < length es → max most (most_bytes (drop i es)) ≡ most_bytes es
    → max (max most (event_bytes (get_or es i d))) (most_bytes (drop (i + 1) es)) ≡ most_bytes es
most_more es i d most below is = let split = ap most_bytes (drop_more es i d below) in omega (arith, split, is)

pub most_out : (es : List Event) (i : ℕ) (most : ℕ) → length es ≤ i → max most (most_bytes (drop i es)) ≡ most_bytes es → most ≡ most_bytes es
most_out es i most all is = let none = ap most_bytes (drop_all i es all) in omega (arith, none, is)

-- the front of a list ends where the list does
take_min : (n : ℕ) (es : List Event) → take (min n (length es)) es ≡ take n es
take_min zero es = let none : min 0 (length es) ≡ 0 = omega arith in ap (λ k. take k es) none
take_min (suc n) [] = let none : min (suc n) 0 ≡ 0 = omega arith in ap (λ k. take {A = Event} k []) none
take_min (suc n) (e ∷ es) =
    let more : min (suc n) (length (e ∷ es)) ≡ suc (min n (length es)) = omega arith in
    ap (λ k. take k (e ∷ es)) more ∙ ap (λ l. e ∷ l) (take_min n es)

drop_min : (n : ℕ) (es : List Event) → drop (min n (length es)) es ≡ drop n es
drop_min zero es = let none : min 0 (length es) ≡ 0 = omega arith in ap (λ k. drop k es) none
drop_min (suc n) [] = let none : min (suc n) 0 ≡ 0 = omega arith in ap (λ k. drop {A = Event} k []) none
drop_min (suc n) (e ∷ es) =
    let more : min (suc n) (length (e ∷ es)) ≡ suc (min n (length es)) = omega arith in
    ap (λ k. drop k (e ∷ es)) more ∙ drop_min n es

-- a piece that takes the lines of some events takes those of their front, and of the others
pub front_room : (room m : ℕ) (rest front : List Event) → HasRoom room rest → front ≡ take m rest → HasRoom room front
front_room room m rest front has is = let less = most_take m rest in subst (HasRoom room) (sym is) (omega (arith, has, less))

pub back_room : (room more m : ℕ) (rest behind : List Event) → HasRoom room rest → room ≤ more → behind ≡ drop m rest → HasRoom more behind
back_room room more m rest behind has grown is = let less = most_drop m rest in subst (HasRoom more) (sym is) (omega (arith, has, grown, less))

-- the next note, behind its events
pub note_on : (ns : List Note) (k : ℕ) (d : Note) (m : ℕ) (rest front behind : List Event) (text line others waits : List ℕ) → k < length ns
    → m ≡ min (get_or ns k d).events (length rest) → front ≡ take m rest → behind ≡ drop m rest → line ≡ take (get_or ns k d).len text → others ≡ drop (get_or ns k d).len text
    → waits ++ woven rest (notes_in (drop k ns) text) ≡ (waits ++ (events_text front ++ line)) ++ woven behind (notes_in (drop (k + 1) ns) others)
note_on ns k d m rest front behind text line others waits below count front_is behind_is line_is others_is =
    let n = get_or ns k d in
    let left = woven behind (notes_in (drop (k + 1) ns) others) in
    let first : take n.events rest ≡ front = sym (front_is ∙ ap (λ c. take c rest) count ∙ take_min n.events rest) in
    let second : drop n.events rest ≡ behind = sym (behind_is ∙ ap (λ c. drop c rest) count ∙ drop_min n.events rest) in
    ap (λ l. waits ++ woven rest (notes_in l text)) (drop_more ns k d below)
    ∙ (λ i. waits ++ (events_text (first i) ++ (sym line_is i ++ woven (second i) (notes_in (drop (k + 1) ns) (sym others_is i)))))
    ∙ ap (λ t. waits ++ t) (sym (append_assoc (events_text front) line left))
    ∙ sym (append_assoc waits (events_text front ++ line) left)

pub note_bytes : (ns : List Note) (i : ℕ) (d : Note) (text others : List ℕ) → i < length ns → bytes_in (drop i ns) ≡ length text → others ≡ drop (get_or ns i d).len text → bytes_in (drop (i + 1) ns) ≡ length others
note_bytes ns i d text others below all is =
    let split = ap bytes_in (drop_more ns i d below) in
    let long = ap length is in
    let left = length-drop (get_or ns i d).len text in
    omega (arith, split, all, long, left)

-- no note is left
pub notes_out : (ns : List Note) (i : ℕ) (rest : List Event) (text waits : List ℕ) → length ns ≤ i → waits ++ woven rest (notes_in (drop i ns) text) ≡ waits ++ events_text rest
notes_out ns i rest text waits all = ap (λ l. waits ++ woven rest (notes_in l text)) (drop_all i ns all)

-- a note more behind those of a text
pub notes-append : (ns : List Note) (n : Note) (text line : List ℕ) → bytes_in ns ≡ length text → n.len ≡ length line
    → notes_in (ns ++ n ∷ []) (text ++ line) ≡ notes_in ns text ++ record { events = n.events; text = line } ∷ []
notes-append [] n [] line all long = ap (λ l. record { events = n.events; text = l } ∷ []) (take_all n.len line (omega (arith, long)))
notes-append [] n (b ∷ text) line all long = absurd (omega (arith, all))
notes-append (x ∷ ns) n text line all long =
    let within : x.len ≤ length text = omega (arith, all) in
    let rest : bytes_in ns ≡ length (drop x.len text) = (let left = length-drop x.len text in omega (arith, all, left)) in
    (λ i. record { events = x.events; text = take-append-le x.len text line within i } ∷ notes_in (ns ++ n ∷ []) (drop-append-le x.len text line within i))
    ∙ ap (λ l. record { events = x.events; text = take x.len text } ∷ l) (notes-append ns n (drop x.len text) line rest long)

pub bytes-append : (ns : List Note) (n : Note) → bytes_in (ns ++ n ∷ []) ≡ bytes_in ns + n.len
bytes-append [] n = omega arith
bytes-append (x ∷ ns) n = let rest = bytes-append ns n in omega (arith, rest)

-- the last note of a text is longer
pub notes-grown : (ns : List Note) (more : ℕ) (text line : List ℕ) → 0 < length ns → bytes_in ns ≡ length text → more ≡ length line
    → notes_in (grown ns more) (text ++ line) ≡ joined (notes_in ns text) line
notes-grown [] more text line some all long = absurd (omega (arith, some))
notes-grown (n ∷ []) more text line some all long =
    let whole : take (n.len + more) (text ++ line) ≡ text ++ line = take_all (n.len + more) (text ++ line) (let sum = length-append text line in omega (arith, all, long, sum)) in
    let same : take n.len text ≡ text = take_all n.len text (omega (arith, all)) in
    (λ i. record { events = n.events; text = whole i } ∷ []) ∙ (λ i. record { events = n.events; text = sym same i ++ line } ∷ [])
notes-grown (n ∷ m ∷ ns) more text line some all long =
    let within : n.len ≤ length text = omega (arith, all) in
    let rest : bytes_in (m ∷ ns) ≡ length (drop n.len text) = (let left = length-drop n.len text in omega (arith, all, left)) in
    (λ i. record { events = n.events; text = take-append-le n.len text line within i } ∷ notes_in (grown (m ∷ ns) more) (drop-append-le n.len text line within i))
    ∙ ap (λ l. record { events = n.events; text = take n.len text } ∷ l) (notes-grown (m ∷ ns) more (drop n.len text) line (omega arith) rest long)

pub bytes-grown : (ns : List Note) (more : ℕ) → 0 < length ns → bytes_in (grown ns more) ≡ bytes_in ns + more
bytes-grown [] more some = absurd (omega (arith, some))
bytes-grown (n ∷ []) more some = omega arith
bytes-grown (n ∷ m ∷ ns) more some = let rest = bytes-grown (m ∷ ns) more (omega arith) in omega (arith, rest)

-- the last note is put anew
pub grown_set : (ns : List Note) (last : ℕ) (d : Note) (more : ℕ) → last + 1 ≡ length ns
    → slice_set ns last (record { events = (slice_index_or ns last d).events; len = (slice_index_or ns last d).len + more }) ≡ grown ns more
grown_set [] last d more is = absurd (omega (arith, is))
grown_set (n ∷ []) zero d more is = refl
grown_set (n ∷ []) (suc k) d more is = absurd (omega (arith, is))
grown_set (n ∷ m ∷ ns) zero d more is = absurd (omega (arith, is))
grown_set (n ∷ m ∷ ns) (suc k) d more is = ap (λ l. n ∷ l) (grown_set (m ∷ ns) k d more (omega (arith, is)))

-- the last note is no longer than all
pub last_within : (ns : List Note) (last : ℕ) (d : Note) → last < length ns → (slice_index_or ns last d).len ≤ bytes_in ns
last_within [] last d below = absurd (omega (arith, below))
last_within (n ∷ ns) zero d below = omega arith
last_within (n ∷ ns) (suc k) d below = let rest = last_within ns k d (omega (arith, below)) in omega (arith, rest)

-- a first text, or one behind more events
pub text_first : (ns : List NoteState) (more : ℕ) (text : List ℕ) → (ns ≡ []) ⊎ (0 < more) → with_text ns more text ≡ ns ++ record { events = more; text = text } ∷ []
text_first ns zero text (inl none) =
    let n : NoteState = record { events = 0; text = text } in
    ap (λ l. joined l text) none ∙ ap (λ l. l ++ n ∷ []) (sym none)
text_first ns (suc k) text (inl none) = refl
text_first ns zero text (inr some) = absurd (omega (arith, some))
text_first ns (suc k) text (inr some) = refl

pub text_joined : (ns : List NoteState) (more : ℕ) (text : List ℕ) → more ≡ 0 → with_text ns more text ≡ joined ns text
text_joined ns more text none = ap (λ k. with_text ns k text) none

pub none_in : (ns : List Note) (text : List ℕ) → length ns ≡ 0 → notes_in ns text ≡ []
none_in [] text none = refl
none_in (n ∷ ns) text none = absurd (omega (arith, none))
