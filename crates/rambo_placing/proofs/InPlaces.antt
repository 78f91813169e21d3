-- An order with the gets in their places, and one entry more
use Rattle.std.proofs.Common.{◌≡◌, ℕ, ◌+◌, ◌<◌, List, [], ◌∷◌, ◌++◌, length, get_or, take, append-nil, append_assoc, sym, ap, ◌∙◌}
use Rattle.rambo_history.specs.declared.event.CallId.{CallId}
use Rattle.rambo_history.specs.declared.event.Event.{Event}
use Rattle.rambo_history.specs.Histories.{call_in}
use Rattle.rambo_placing.specs.Placings.{in_place, in_places}
use Rattle.rambo_placing.proofs.Written.{take-item}

in_places-push : (h : List Event) (key : List ℕ) (cs : List CallId) (c : CallId) → in_places h key (cs ++ c ∷ []) ≡ in_places h key cs ++ in_place h key c (call_in h c)
in_places-push h key [] c = append-nil (in_place h key c (call_in h c))
in_places-push h key (d ∷ cs) c =
    ap (λ l. in_place h key d (call_in h d) ++ l) (in_places-push h key cs c)
    ∙ sym (append_assoc (in_place h key d (call_in h d)) (in_places h key cs) (in_place h key c (call_in h c)))

pub in_places-on : (h : List Event) (key : List ℕ) (first order : List CallId) (i : ℕ) (c : CallId) (old : List CallId) → i < length order → c ≡ get_or order i c
    → old ≡ first ++ in_places h key (take i order) → old ++ in_place h key c (call_in h c) ≡ first ++ in_places h key (take (i + 1) order)
in_places-on h key first order i c old below is was =
    ap (λ l. l ++ in_place h key c (call_in h c)) was ∙ append_assoc first (in_places h key (take i order)) (in_place h key c (call_in h c))
    ∙ ap (λ l. first ++ l) (sym (in_places-push h key (take i order) c) ∙ ap (in_places h key) (sym (take-item order i c below is)))
