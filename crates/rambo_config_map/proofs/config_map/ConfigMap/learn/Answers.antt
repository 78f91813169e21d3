use Rattle.std.proofs.Common.{◌≡◌, ℕ, nat_le, ◌+◌, ◌-◌, ◌<◌, ◌≤◌, ◌^◌, if◌then◌else◌, List, [], ◌∷◌, ◌++◌, length, Result, Ok, Err, refl, sym, ap, ◌∙◌, subst, arith, length-append}
use Rattle.std.specs.Prelude.{SomeIff, IsErrAnd}
use Rattle.std.specs.Option.{ok_or}
use Rattle.std.proofs.lemmas.Bool.{le-leb, lt-leb}
use Rattle.rambo_names.specs.declared.refusal.Refusal.TheVariants as refusal
use Rattle.rambo_names.proofs.Errors.{err_ok, on_err}
use Rattle.rambo_names.proofs.Sizes.{back_fits, up_fits}
use Rattle.rambo_config_map.specs.Maps.{MapState, end_of, top_of, learnt, learn_answer}
use Rattle.rambo_config_map.specs.MapLaws.{top_below}
use Rattle.rambo_config_map.proofs.config_map.ConfigMap.learn.Goals as goal

few : (len n : ℕ) → len ≡ n → n ≤ 8 → (len ≡ 8 → ⊥) → n < 8
few len n e h other = omega (arith, e, h, other)

one_more : (n : ℕ) → n < 8 → n + 1 ≤ 8
one_more n h = omega (arith, h)

full : {Q : Type 0} (m : MapState Q) → length m.configs ≡ 8 → Err refusal.TooManyActive ≡ learn_answer m
full m h =
    let all : 8 ≤ length m.configs = omega (arith, h) in
    sym (ap (λ t. if t then Err refusal.TooManyActive else (if nat_le (2 ^ 64 - 1) (top_of m) then Err refusal.NumbersSpent else Ok (end_of m))) (le-leb 8 (length m.configs) all))

after_room : {Q : Type 0} (m : MapState Q) → length m.configs < 8
    → learn_answer m ≡ (if nat_le (2 ^ 64 - 1) (top_of m) then Err refusal.NumbersSpent else Ok (end_of m))
after_room m h =
    ap (λ t. if t then Err refusal.TooManyActive else (if nat_le (2 ^ 64 - 1) (top_of m) then Err refusal.NumbersSpent else Ok (end_of m))) (lt-leb 8 (length m.configs) h)

spent : {Q : Type 0} (m : MapState Q) (top : ℕ) → length m.configs < 8 → top ≡ top_of m → (top + 1 < 2 ^ 64 → ⊥) → Err refusal.NumbersSpent ≡ learn_answer m
spent m top h e none =
    let far : 2 ^ 64 - 1 ≤ top_of m = omega (arith, e, none) in
    sym (after_room m h ∙ ap (λ t. if t then Err refusal.NumbersSpent else Ok (end_of m)) (le-leb (2 ^ 64 - 1) (top_of m) far))

learnt_at : {Q : Type 0} (m : MapState Q) (place top : ℕ) → length m.configs < 8 → 1 ≤ length m.configs → top ≡ top_of m → top + 1 < 2 ^ 64 → place ≡ top + 1
    → Ok place ≡ learn_answer m
learnt_at m place top h some e near p =
    let below : top_of m < 2 ^ 64 - 1 = omega (arith, e, near) in
    let is : place ≡ end_of m = omega (arith, e, p, some, top_below m) in
    sym (after_room m h ∙ ap (λ t. if t then Err refusal.NumbersSpent else Ok (end_of m)) (lt-leb (2 ^ 64 - 1) (top_of m) below) ∙ ap (λ n. Ok n) (sym is))

an_error : {T E : Type 0} (r : Result T E) (e : E) → IsErrAnd r (λ x. x ≡ e) → r ≡ Err e
an_error (Ok x) e is = elim is [ ]
an_error (Err x) e is = ap (λ y. Err y) is

in_range : {Q : Type 0} (m : MapState Q) (new : List Q) (config : Q) (top : ℕ) → length m.configs < 8 → 1 ≤ length m.configs → top ≡ top_of m → top + 1 < 2 ^ 64
    → new ≡ m.configs ++ config ∷ [] → (1 ≤ length new) × (length new ≤ 8) × (m.floor + length new ≤ 2 ^ 64)
in_range m new config top h some e near is =
    let n : length new ≡ length m.configs + 1 = ap length is ∙ length-append m.configs (config ∷ []) in
    (omega (arith, n), omega (arith, n, h), omega (arith, n, some, e, near, top_below m))

pub len-requires : goal.len-requires
len-requires g c = back_fits _ _ _ (up_fits _ _ _ c.requires-raw.1)

pub returns-then-len-eq-ACTIVE_LIMIT-clause-answer : goal.returns-then-len-eq-ACTIVE_LIMIT-clause-answer
returns-then-len-eq-ACTIVE_LIMIT-clause-answer g c =
    full c.args.self.now (subst (λ m. length m.configs ≡ 8) c.self.view_is (sym c.len.ensures ∙ c.if-len-eq-ACTIVE_LIMIT.true))

pub returns-then-len-eq-ACTIVE_LIMIT-clause-ok : goal.returns-then-len-eq-ACTIVE_LIMIT-clause-ok
returns-then-len-eq-ACTIVE_LIMIT-clause-ok g c = tt

pub returns-then-len-eq-ACTIVE_LIMIT-clause-err : goal.returns-then-len-eq-ACTIVE_LIMIT-clause-err
returns-then-len-eq-ACTIVE_LIMIT-clause-err g c = refl

pub top-requires : goal.top-requires
top-requires g c = c.requires-raw.1

pub same-self-in_err-place : goal.same-self-in_err-place
same-self-in_err-place g c = refl

pub returns-in_err-place-clause-answer : goal.returns-in_err-place-clause-answer
returns-in_err-place-clause-answer g c =
    an_error c.from_residual.result c.in_err-place.field-0.0 c.from_residual.ensures.1 ∙ c.in_err-place.ensures.value ∙ ap (λ o. ok_or o refusal.NumbersSpent) c.in_err-place.ensures.ok_part
    ∙ spent c.args.self.now c.top.result (subst (λ m. length m.configs < 8) c.self.view_is (few _ _ c.len.ensures c.self.invariant.1 c.if-len-eq-ACTIVE_LIMIT.false)) c.top.ensures
    (subst (λ o. SomeIff o (c.top.result + 1 < 2 ^ 64) (c.top.result + 1)) c.in_err-place.ensures.ok_part c.checked_add.ensures)

pub returns-in_err-place-clause-ok : goal.returns-in_err-place-clause-ok
returns-in_err-place-clause-ok g c = err_ok c.from_residual.result _ _ c.from_residual.ensures.1

pub returns-in_err-place-clause-err : goal.returns-in_err-place-clause-err
returns-in_err-place-clause-err g c = on_err c.from_residual.result refl

pub push-requires : goal.push-requires
push-requires g c = (back_fits _ _ _ (up_fits _ _ _ c.requires-raw.1), one_more _ (few _ _ c.len.ensures c.self.invariant.1 c.if-len-eq-ACTIVE_LIMIT.false))

pub invariant_of-self : goal.invariant_of-self
invariant_of-self g c =
    let sum = in_range (record { floor = c.self.inside.floor; configs = c.self.inside.places.configs }) c.push.new.self.configs c.args.config c.top.result
    (few _ _ c.len.ensures c.self.invariant.1 c.if-len-eq-ACTIVE_LIMIT.false) c.self.invariant.0 (c.top.ensures ∙ ap top_of (sym c.self.view_is)) ((subst (λ o. SomeIff o (c.top.result + 1 < 2 ^ 64) (c.top.result + 1)) c.in_ok-place.ensures.ok_part c.checked_add.ensures)).0 c.push.ensures.configs in
    (sum.0, sum.1, sum.2, c.push.ensures.capacity ∙ c.self.invariant.3)

pub returns-clause-answer : goal.returns-clause-answer
returns-clause-answer g c =
    let room = (subst (λ o. SomeIff o (c.top.result + 1 < 2 ^ 64) (c.top.result + 1)) c.in_ok-place.ensures.ok_part c.checked_add.ensures) in
    learnt_at c.args.self.now c.in_ok-place.place c.top.result (subst (λ m. length m.configs < 8) c.self.view_is (few _ _ c.len.ensures c.self.invariant.1 c.if-len-eq-ACTIVE_LIMIT.false)) (subst (λ m. 1 ≤ length m.configs) c.self.view_is c.self.invariant.0) c.top.ensures room.0 room.1

pub returns-clause-ok : goal.returns-clause-ok
returns-clause-ok g c =
    (λ i. record { floor = c.self.inside.floor; configs = c.push.ensures.configs i }) ∙ ap (λ m. learnt m c.args.config) c.self.view_is

pub returns-clause-err : goal.returns-clause-err
returns-clause-err g c = tt

pub same-self : goal.same-self
same-self g c = refl
