-- The text of items, some behind others
use Rattle.std.proofs.Common.{◌≡◌, List, [], ◌∷◌, ◌++◌, refl, sym, ap, ◌∙◌, append_assoc}
use Rattle.rambo_check.specs.Lines.{Item, item_line, items_text}

pub items-append : (is js : List Item) → items_text (is ++ js) ≡ items_text is ++ items_text js
items-append [] js = refl
items-append (i ∷ is) js = ap (λ t. item_line i ++ t) (items-append is js) ∙ sym (append_assoc (item_line i) (items_text is) (items_text js))
