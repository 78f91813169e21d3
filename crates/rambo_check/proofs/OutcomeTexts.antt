-- The text of an outcome, part by part
use Rattle.std.proofs.Common.{◌≡◌, ℕ, List, ◌++◌, map, sym, ap, ◌∙◌, append_assoc}
use Rattle.rambo_history.specs.declared.event.CallId.{CallId}
use Rattle.rambo_text.specs.Versions.{head_text}
use Rattle.rambo_text.specs.declared.version.Version.{Version}
use Rattle.rambo_check.proofs.ItemTexts.{items-append}
use Rattle.rambo_check.proofs.PlacedOrders.{map-twice}
use Rattle.rambo_check.specs.EvidenceStates.{EvidenceState}
use Rattle.rambo_check.specs.Lines.{Happened, Item, Ordered, items_text}
use Rattle.rambo_check.specs.Placings.{evidence_text, order_items}
use Rattle.rambo_check.specs.declared.order.Placed.{Placed}

-- items behind a front, and more behind these
items-on : (front text longer : List ℕ) (is js : List Item) → text ≡ front ++ items_text is → longer ≡ text ++ items_text js → longer ≡ front ++ items_text (is ++ js)
items-on front text longer is js now more =
    more ∙ ap (λ t. t ++ items_text js) now ∙ append_assoc front (items_text is) (items_text js) ∙ ap (λ t. front ++ t) (sym (items-append is js))

-- the head, then the calls and answers, then the order of each key, then that of all
pub whole-text : (version : Version) (s : EvidenceState) (orders : List (List ℕ × Placed)) (head a b c : List ℕ) → map (λ o. (o.0, o.1.order)) orders ≡ s.orders
    → head ≡ head_text version → a ≡ head ++ items_text (map Happened s.events)
    → b ≡ a ++ items_text (map (λ o. Ordered (record { key = o.0; calls = o.1.order })) orders) → c ≡ b ++ items_text (order_items s.order)
    → c ≡ evidence_text version s
whole-text version s orders head a b c same first events sequences order =
    let line : List ℕ × List CallId → Item = λ o. Ordered (record { key = o.0; calls = o.1 }) in
    let items : map (λ o. Ordered (record { key = o.0; calls = o.1.order })) orders ≡ map line s.orders
    = sym (map-twice line (λ (o : List ℕ × Placed). (o.0, o.1.order)) orders) ∙ ap (map line) same in
    let front : a ≡ head_text version ++ items_text (map Happened s.events) = events ∙ ap (λ t. t ++ items_text (map Happened s.events)) first in
    let keys = items-on (head_text version) a b (map Happened s.events) (map line s.orders) front (sequences ∙ ap (λ is. a ++ items_text is) items) in
    items-on (head_text version) b c (map Happened s.events ++ map line s.orders) (order_items s.order) keys order
    ∙ ap (λ is. head_text version ++ items_text is) (append_assoc (map Happened s.events) (map line s.orders) (order_items s.order))
