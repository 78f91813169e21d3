use Rattle.std.proofs.lemmas.Grind.{common_steps}
use Rattle.std.proofs.Common.{◌≡◌, List, [], ◌∷◌, ◌++◌, length, slice_get, slice_set, Some, refl, sym, ap, ◌∙◌, arith}
use Rattle.std.proofs.lemmas.List.{map-append, length-map}
use Rattle.rambo_calls.specs.Calls.{CallState}
use Rattle.rambo_calls.specs.declared.stage.Stage.TheVariants.{Query}
use Rattle.rambo_calls.specs.Hearing.{restarted}
use Rattle.rambo_calls.specs.Kept.{call_of, calls_of, with_call}
use Rattle.rambo_calls.proofs.open_calls.OpenCalls.open_reserved.Goals as goal

last_is : {A : Type 0} (xs : List A) (x : A) → slice_get (xs ++ x ∷ []) (length xs) ≡ Some x
last_is [] x = refl
last_is (y ∷ ys) x = last_is ys x

last_set : {A : Type 0} (xs : List A) (x y : A) → slice_set (xs ++ x ∷ []) (length xs) y ≡ xs ++ y ∷ []
last_set [] x y = refl
last_set (z ∷ zs) x y = ap (λ ys. z ∷ ys) (last_set zs x y)

-- the last call is put in another way
last_put : {Q : Type 0} (cs : List (CallState Q)) (c : CallState Q) (f : CallState Q → CallState Q)
    → with_call (length cs) (slice_get (cs ++ c ∷ []) (length cs)) f (cs ++ c ∷ []) ≡ cs ++ f c ∷ []
last_put cs c f = ap (λ o. with_call (length cs) o f (cs ++ c ∷ [])) (last_is cs c) ∙ last_set cs c (f c)

pub returns : goal.returns
returns g c =
    let old = calls_of c.args.self.now.list in
    let first = call_of (record { number = c.args.number; op = c.args.op; stage = Query; phase = c.new.result }) in
    let f = restarted c.args.phase_number c.args.map.now c.args.me in
    let place : c.len-place.result ≡ length old =
    c.len-place.ensures ∙ c.self.inside.list.ok.0 ∙ ap (λ k. length k.list) c.self.view_is ∙ sym (length-map c.args.self.now.list call_of) in
    let opened : calls_of c.push_reserved.new.self.items ≡ old ++ first ∷ [] =
    ap calls_of c.push_reserved.ensures.items ∙ map-append call_of c.self.inside.list.items _
    ∙ ap (λ k. calls_of k.list ++ first ∷ []) c.self.view_is in
    c.restart.ensures ∙ (λ i. with_call (place i) (slice_get (opened i) (place i)) f (opened i)) ∙ last_put old first f

pub restart-requires : goal.restart-requires
restart-requires g c = assumption

pub push_reserved-requires : goal.push_reserved-requires
push_reserved-requires g c = grind (arith, common_steps)

pub new-requires : goal.new-requires
new-requires g c = grind (arith, common_steps)
