-- The events of a history, with notes between them
use Rattle.std.proofs.Common.{◌≡◌, ◌⊎◌, ◌≤◌, ℕ, zero, suc, ◌+◌, ◌-◌, List, [], ◌∷◌, ◌++◌, map, length, take, drop, refl, sym, ap, subst, ◌∙◌, inl, inr, append_assoc, append-nil, length-append, arith}
use Rattle.std.proofs.lemmas.List.{take-append-le, drop-append-le, length-drop, take_all, drop_all, map-append}
use Rattle.rambo_history.specs.declared.event.Event.{Event}
use Rattle.rambo_check.specs.Lines.{Item, Happened, items_text}
use Rattle.rambo_check.proofs.ItemTexts.{items-append}
use Rattle.rambo_outcome.specs.Notes.{NoteState, events_before, joined, with_text, noted, events_text, woven}

pub events-append : (xs ys : List Event) → events_text (xs ++ ys) ≡ events_text xs ++ events_text ys
events-append xs ys = ap items_text (map-append Happened xs ys) ∙ items-append (map Happened xs) (map Happened ys)

-- three texts, and more behind them
front_on : (a b c d e : List ℕ) → c ≡ d ++ e → a ++ (b ++ c) ≡ (a ++ (b ++ d)) ++ e
front_on a b c d e is = ap (λ t. a ++ (b ++ t)) is ∙ ap (λ t. a ++ t) (sym (append_assoc b d e)) ∙ sym (append_assoc a (b ++ d) e)

-- one event more comes behind all notes
woven_event : (es : List Event) (e : Event) (ns : List NoteState) → events_before ns ≤ length es → woven (es ++ e ∷ []) ns ≡ woven es ns ++ items_text (Happened e ∷ [])
woven_event es e [] within = events-append es (e ∷ [])
woven_event es e (n ∷ ns) within =
    let less : n.events ≤ length es = omega (arith, within) in
    let left : events_before ns ≤ length (drop n.events es) = (let long = length-drop n.events es in omega (arith, within, long)) in
    let front : take n.events (es ++ e ∷ []) ≡ take n.events es = take-append-le n.events es (e ∷ []) less in
    let back : drop n.events (es ++ e ∷ []) ≡ drop n.events es ++ e ∷ [] = drop-append-le n.events es (e ∷ []) less in
    (λ i. events_text (front i) ++ (n.text ++ woven (back i) ns))
    ∙ front_on (events_text (take n.events es)) n.text (woven (drop n.events es ++ e ∷ []) ns) (woven (drop n.events es) ns) (items_text (Happened e ∷ [])) (woven_event (drop n.events es) e ns left)

-- one note more, behind all events
woven_note : (es : List Event) (ns : List NoteState) (text : List ℕ) (count : ℕ) → events_before ns ≤ length es → count ≡ length es - events_before ns
    → woven es (ns ++ record { events = count; text = text } ∷ []) ≡ woven es ns ++ text
woven_note es [] text count within is =
    let long : length es ≤ count = omega (arith, is) in
    (λ i. events_text (take_all count es long i) ++ (text ++ events_text (drop_all count es long i)))
    ∙ ap (λ t. events_text es ++ t) (append-nil text)
woven_note es (n ∷ ns) text count within is =
    let long = length-drop n.events es in
    let left : events_before ns ≤ length (drop n.events es) = omega (arith, within, long) in
    let same : count ≡ length (drop n.events es) - events_before ns = omega (arith, within, long, is) in
    front_on (events_text (take n.events es)) n.text (woven (drop n.events es) (ns ++ record { events = count; text = text } ∷ [])) (woven (drop n.events es) ns) text
    (woven_note (drop n.events es) ns text count left same)

pub before-append : (ns : List NoteState) (n : NoteState) → events_before (ns ++ n ∷ []) ≡ events_before ns + n.events
before-append [] n = omega arith
before-append (x ∷ ns) n = let rest = before-append ns n in omega (arith, rest)

-- more text behind the last, with no event between
woven_joined : (es : List Event) (ns : List NoteState) (text : List ℕ) → length es ≡ events_before ns → woven es (joined ns text) ≡ woven es ns ++ text
woven_joined [] [] text all = append-nil text
woven_joined (e ∷ es) [] text all = absurd (omega (arith, all))
woven_joined es (n ∷ []) text all =
    let front = events_text (take n.events es) in
    let none : drop n.events es ≡ [] = drop_all n.events es (omega (arith, all)) in
    (λ i. front ++ ((n.text ++ text) ++ events_text (none i)))
    ∙ ap (λ t. front ++ t) (append-nil (n.text ++ text)) ∙ sym (append_assoc front n.text text)
    ∙ ap (λ t. (front ++ t) ++ text) (sym (append-nil n.text)) ∙ (λ i. (front ++ (n.text ++ events_text (sym none i))) ++ text)
woven_joined es (n ∷ m ∷ ns) text all =
    let long = length-drop n.events es in
    let left : length (drop n.events es) ≡ events_before (m ∷ ns) = omega (arith, all, long) in
    front_on (events_text (take n.events es)) n.text (woven (drop n.events es) (joined (m ∷ ns) text)) (woven (drop n.events es) (m ∷ ns)) text
    (woven_joined (drop n.events es) (m ∷ ns) text left)

pub before-joined : (ns : List NoteState) (text : List ℕ) → events_before (joined ns text) ≡ events_before ns
before-joined [] text = omega arith
before-joined (n ∷ []) text = refl
before-joined (n ∷ m ∷ ns) text = ap (λ k. n.events + k) (before-joined (m ∷ ns) text)

-- a text behind some more events
pub before-text : (ns : List NoteState) (more : ℕ) (text : List ℕ) → events_before (with_text ns more text) ≡ events_before ns + more
before-text ns zero text = let same = before-joined ns text in omega (arith, same)
before-text ns (suc k) text = before-append ns (record { events = suc k; text = text })

-- behind all events
woven_text : (es : List Event) (ns : List NoteState) (more : ℕ) (text : List ℕ) → events_before ns ≤ length es → more ≡ length es - events_before ns
    → woven es (with_text ns more text) ≡ woven es ns ++ text
woven_text es ns zero text within is = woven_joined es ns text (omega (arith, within, is))
woven_text es ns (suc k) text within is = woven_note es ns text (suc k) within is

-- items that are noted behind all events
noted_text : (es : List Event) (ns : List NoteState) (is : List Item) → events_before ns ≤ length es → woven es (noted ns (length es) is) ≡ woven es ns ++ items_text is
noted_text es ns [] within = sym (append-nil (woven es ns))
noted_text es ns (i ∷ is) within = woven_text es ns (length es - events_before ns) (items_text (i ∷ is)) within refl

noted_within : (es : List Event) (ns : List NoteState) (is : List Item) → events_before ns ≤ length es → events_before (noted ns (length es) is) ≤ length es
noted_within es ns [] within = within
noted_within es ns (i ∷ is) within =
    let all = before-text ns (length es - events_before ns) (items_text (i ∷ is)) in
    omega (arith, within, all)

-- of what is told of a step a history has all that isn't noted, in the event by which it goes on
abbrev pub Parts : List Event → List Event → List Item → List Item → Type 0
Parts h k told others = ((k ≡ h) × (told ≡ others)) ⊎ ((e : Event) × (k ≡ h ++ e ∷ []) × (told ≡ Happened e ∷ []) × (others ≡ []))

-- so it comes behind the events and the notes so far
pub parts_on : (h k : List Event) (ns : List NoteState) (told others : List Item) → Parts h k told others → events_before ns ≤ length h
    → (woven k (noted ns (length k) others) ≡ woven h ns ++ items_text told) × (events_before (noted ns (length k) others) ≤ length k)
parts_on h k ns told others (inl same) within =
    let text : woven k (noted ns (length k) others) ≡ woven h (noted ns (length h) others) = ap (λ l. woven l (noted ns (length l) others)) same.0 in
    let less = noted_within h ns others within in (
      text ∙ noted_text h ns others within ∙ ap (λ is. woven h ns ++ items_text is) (sym same.1),
      subst (λ l. events_before (noted ns (length l) others) ≤ length l) (sym same.0) less,
    )
parts_on h k ns told others (inr more) within =
    let e = more.0 in
    let text : woven k (noted ns (length k) others) ≡ woven (h ++ e ∷ []) ns = (λ i. woven (more.1 i) (noted ns (length k) (more.3 i))) in
    let long = length-append h (e ∷ []) in (
      text ∙ woven_event h e ns within ∙ ap (λ is. woven h ns ++ items_text is) (sym more.2),
      subst (λ is. events_before (noted ns (length k) is) ≤ length k) (sym more.3) (let count = ap length more.1 in omega (arith, within, long, count)),
    )
