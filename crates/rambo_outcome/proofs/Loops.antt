-- Texts that a loop writes, item by item
use Rattle.std.proofs.Common.{◌≡◌, ℕ, ◌+◌, ◌<◌, List, [], ◌∷◌, ◌++◌, length, get_or, drop, refl, sym, ap, ◌∙◌, append_assoc, append-nil, arith, Result, map}
use Rattle.std.proofs.lemmas.List.{drop_more}
use Rattle.rambo_names.specs.declared.refusal.Refusal.{Refusal}
use Rattle.rambo_names.specs.Weights.{Weights}
use Rattle.rambo_history.specs.declared.event.CallId.{CallId}
use Rattle.rambo_history.specs.declared.event.Event.{Event}
use Rattle.rambo_node.specs.declared.effect.Effect.{Effect}
use Rattle.rambo_run.specs.Runs.{OutcomeState}
use Rattle.rambo_text.specs.declared.version.Version.{Version}
use Rattle.rambo_text.specs.Versions.{head_text}
use Rattle.rambo_text.specs.Signs.{Grows}
use Rattle.rambo_check.specs.Lines.{Item, Ordered, OrderedAll, item_line, items_text}
use Rattle.rambo_check.proofs.ItemTexts.{items-append}
use Rattle.rambo_outcome.specs.Outcomes.{step_items, steps_items, order_items, order_items_in, map_item, outcome_lines}

-- what is still to be written after one item more
pub one_on : {X : Type 0} (F : List X → List ℕ) (G : X → List ℕ) → ((x : X) (xs : List X) → F (x ∷ xs) ≡ G x ++ F xs)
    → (xs : List X) (i : ℕ) (x : X) (out new whole : List ℕ) → i < length xs → x ≡ get_or xs i x → new ≡ out ++ G x
    → out ++ F (drop i xs) ≡ whole → new ++ F (drop (i + 1) xs) ≡ whole
one_on F G step xs i x out new whole h item now before =
    let split = drop_more xs i x h ∙ ap (λ y. y ∷ drop (i + 1) xs) (sym item) in
    ap (λ t. t ++ F (drop (i + 1) xs)) now ∙ append_assoc out (G x) (F (drop (i + 1) xs)) ∙ ap (λ t. out ++ t) (sym (step x (drop (i + 1) xs)))
    ∙ ap (λ t. out ++ F t) (sym split) ∙ before

-- more is still behind what there was
pub grows_on : (start out new more : List ℕ) → new ≡ out ++ more → Grows start out → Grows start new
grows_on start out new more now front = (front.0 ++ more, now ∙ ap (λ t. t ++ more) front.1 ∙ append_assoc start front.0 more)

-- a step more
pub step_on : (h : List Event) (rs : List (Result (Effect Weights) Refusal)) (i : ℕ) (r : Result (Effect Weights) Refusal) (out new whole : List ℕ) → i < length rs
    → r ≡ get_or rs i r → new ≡ out ++ items_text (step_items h (i + 1) r)
    → out ++ items_text (steps_items h (i + 1) (drop i rs)) ≡ whole → new ++ items_text (steps_items h (i + 1 + 1) (drop (i + 1) rs)) ≡ whole
step_on h rs i r out new whole lt item now before =
    let left = steps_items h (i + 1 + 1) (drop (i + 1) rs) in
    let split = drop_more rs i r lt ∙ ap (λ y. y ∷ drop (i + 1) rs) (sym item) in
    ap (λ t. t ++ items_text left) now ∙ append_assoc out (items_text (step_items h (i + 1) r)) (items_text left)
    ∙ ap (λ t. out ++ t) (sym (items-append (step_items h (i + 1) r) left))
    ∙ ap (λ t. out ++ items_text (steps_items h (i + 1) t)) (sym split) ∙ before

-- items behind a front, and more behind these
pub items_on : (front text longer : List ℕ) (is js : List Item) → text ≡ front ++ items_text is → longer ≡ text ++ items_text js → longer ≡ front ++ items_text (is ++ js)
items_on front text longer is js now more =
    more ∙ ap (λ t. t ++ items_text js) now ∙ append_assoc front (items_text is) (items_text js) ∙ ap (λ t. front ++ t) (sym (items-append is js))

-- the head, then the steps, then the sequences, then the order of all keys, then the maps
pub whole_text : (version : Version) (o : OutcomeState Weights) (head a b c d : List ℕ) → head ≡ head_text version → a ≡ head ++ items_text (steps_items o.history 1 o.effects)
    → b ≡ a ++ items_text (map Ordered o.sequences) → c ≡ b ++ items_text (order_items_in version o.order) → d ≡ c ++ items_text (map map_item o.maps) → d ≡ outcome_lines version o
whole_text version o head a b c d first steps sequences order maps =
    let told = steps_items o.history 1 o.effects in
    let front : a ≡ head_text version ++ items_text told = steps ∙ ap (λ t. t ++ items_text told) first in
    items_on (head_text version) c d (told ++ map Ordered o.sequences ++ order_items_in version o.order) (map map_item o.maps)
    (items_on (head_text version) b c (told ++ map Ordered o.sequences) (order_items_in version o.order)
    (items_on (head_text version) a b told (map Ordered o.sequences) front sequences) order) maps

-- an order with no call has no line, and another has its own
pub order_none : (calls : List CallId) (out : List ℕ) → length calls ≡ 0 → out ≡ out ++ items_text (order_items calls)
order_none [] out none = sym (append-nil out)
order_none (c ∷ cs) out none = absurd (omega (arith, none))

pub order_some : (calls : List CallId) (out new : List ℕ) → (length calls ≡ 0 → ⊥) → new ≡ out ++ item_line (OrderedAll calls) → new ≡ out ++ items_text (order_items calls)
order_some [] out new some is = absurd (some refl)
order_some (c ∷ cs) out new some is = is ∙ ap (λ t. out ++ t) (sym (append-nil (item_line (OrderedAll (c ∷ cs)))))
