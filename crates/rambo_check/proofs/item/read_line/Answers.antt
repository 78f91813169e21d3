use Rattle.std.proofs.Common.{◌≡◌, ℕ, List, Option, codes, ◌∷◌, refl, sym, ap, ◌∙◌, subst}
use Rattle.std.specs.Option.{option_copied}
use Rattle.std.specs.Str.{bytes_eq}
use Rattle.std.proofs.lemmas.Result.{err_from_is_err_and}
use Rattle.std.proofs.lemmas.Slice.Eq.{bytes_eq-Decides}
use Rattle.rambo_text.specs.declared.version.Version.{Version}
use Rattle.rambo_text.specs.Words.{AreWords, IsFirstWord}
use Rattle.rambo_text.proofs.WordSplits.{words_joined}
use Rattle.rambo_check.specs.Items.{IsItem, IsLineIn, IsPassed, IsSpelling}
use Rattle.rambo_check.specs.Lines.{Item, Happened, Collected, Settled, Refused, Ordered, OrderedAll, Mapped, item_words}
use Rattle.rambo_check.specs.Plans.{call_plan, answer_plan, sequence_plan, plan}
use Rattle.rambo_check.proofs.LineFaults.{line_fault, plan_word, order_fault, order_word}
use Rattle.rambo_check.proofs.item.read_line.Goals as goal

-- the line is an item's, whose first word this is
kept_line : (line first text : List ℕ) (more : Option (List ℕ)) (i : Item) → IsFirstWord line first more → first ≡ text → IsSpelling text more i → IsItem i × AreWords line (item_words i)
kept_line line first text more i is same s = (s.0, subst (AreWords line) (ap (λ w. w ∷ s.1) same ∙ sym s.3) (words_joined line first more s.1 is s.2))

-- a line that is read for its form alone is one of both versions
passed_of : (v : Version) (i : Item) → IsPassed i → IsLineIn v i
passed_of v (Happened e) is = absurd is
passed_of v (Collected name place) is = tt
passed_of v (Settled name place conf) is = tt
passed_of v (Refused step number) is = tt
passed_of v (Ordered s) is = absurd is
passed_of v (OrderedAll calls) is = absurd is
passed_of v (Mapped name floor confs) is = tt

pub returns-in_err-read_called-clause-fault : goal.returns-in_err-read_called-clause-fault
returns-in_err-read_called-clause-fault c =
    let p = err_from_is_err_and c.from_residual.result c.from_residual.ensures.1 in
    rw (p.1, p.2)
    (line_fault c.args.version c.args.line.now c.next_word.result.0.now (option_copied c.next_word.result.1) call_plan _ c.next_word.ensures
    (plan_word c.args.version c.next_word.result.0.now (codes "call") (c.if-eq.ensures ∙ ap (bytes_eq c.next_word.result.0.now) c.as_slice.ensures)) c.in_err-read_called.ensures.fault)

pub returns-in_err-read_answered-clause-fault : goal.returns-in_err-read_answered-clause-fault
returns-in_err-read_answered-clause-fault c =
    let p = err_from_is_err_and c.from_residual-in_err-read_answered.result c.from_residual-in_err-read_answered.ensures.1 in
    rw (p.1, p.2)
    (line_fault c.args.version c.args.line.now c.next_word.result.0.now (option_copied c.next_word.result.1) answer_plan _ c.next_word.ensures
    (plan_word c.args.version c.next_word.result.0.now (codes "answer") (c.if-eq-2.ensures ∙ ap (bytes_eq c.next_word.result.0.now) c.as_slice-2.ensures)) c.in_err-read_answered.ensures.fault)

pub returns-in_err-key-clause-fault : goal.returns-in_err-key-clause-fault
returns-in_err-key-clause-fault c =
    let p = err_from_is_err_and c.from_residual-in_err-key.result c.from_residual-in_err-key.ensures.1 in
    rw (p.1, p.2)
    (line_fault c.args.version c.args.line.now c.next_word.result.0.now (option_copied c.next_word.result.1) sequence_plan _ c.next_word.ensures
    (plan_word c.args.version c.next_word.result.0.now (codes "sequence") (c.if-eq-3.ensures ∙ ap (bytes_eq c.next_word.result.0.now) c.as_slice-3.ensures)) c.in_err-key.ensures.fault)

pub returns-in_err-read_order-clause-fault : goal.returns-in_err-read_order-clause-fault
returns-in_err-read_order-clause-fault c =
    let p = err_from_is_err_and c.from_residual-in_err-read_order.result c.from_residual-in_err-read_order.ensures.1 in
    rw (p.1, p.2)
    (order_fault c.args.version c.args.line.now c.next_word.result.0.now (option_copied c.next_word.result.1) _ c.next_word.ensures c.if-tells_order.ensures
    c.in_err-read_order.ensures.fault)

pub returns-then-tells_order-clause-kept : goal.returns-then-tells_order-clause-kept
returns-then-tells_order-clause-kept c =
    let word = c.next_word.result.0.now in
    let item : Item = OrderedAll c.in_ok-read_order.field-0 in
    let is = order_word c.args.version word c.if-tells_order.ensures in
    let k = kept_line c.args.line.now word (codes "order") (option_copied c.next_word.result.1) item c.next_word.ensures is.1 c.in_ok-read_order.ensures.spelt in
    (item, k.0, is.0, k.1, refl)

pub read_passed-requires-clause-order : goal.read_passed-requires-clause-order
read_passed-requires-clause-order c = sym c.if-tells_order.ensures

pub read_passed-requires-clause-call : goal.read_passed-requires-clause-call
read_passed-requires-clause-call c = sym (c.if-eq.ensures ∙ ap (bytes_eq c.next_word.result.0.now) c.as_slice.ensures)

pub read_passed-requires-clause-answer : goal.read_passed-requires-clause-answer
read_passed-requires-clause-answer c = sym (c.if-eq-2.ensures ∙ ap (bytes_eq c.next_word.result.0.now) c.as_slice-2.ensures)

pub read_passed-requires-clause-sequence : goal.read_passed-requires-clause-sequence
read_passed-requires-clause-sequence c = sym (c.if-eq-3.ensures ∙ ap (bytes_eq c.next_word.result.0.now) c.as_slice-3.ensures)

pub returns-in_err-read_passed-clause-fault : goal.returns-in_err-read_passed-clause-fault
returns-in_err-read_passed-clause-fault c =
    let p = err_from_is_err_and c.from_residual-in_err-read_passed.result c.from_residual-in_err-read_passed.ensures.1 in
    rw (p.1, p.2)
    (line_fault c.args.version c.args.line.now c.next_word.result.0.now (option_copied c.next_word.result.1) (λ words. plan c.args.version (c.next_word.result.0.now ∷ words)) _ c.next_word.ensures (λ words. refl)
    c.in_err-read_passed.ensures.fault)

pub returns-then-eq-clause-kept : goal.returns-then-eq-clause-kept
returns-then-eq-clause-kept c =
    let word = c.next_word.result.0.now in
    let item : Item = Happened c.in_ok-read_called.field-0 in
    let same : word ≡ codes "call" = (bytes_eq-Decides word (codes "call")).0 (sym (c.if-eq.ensures ∙ ap (bytes_eq word) c.as_slice.ensures)) in
    let k = kept_line c.args.line.now word (codes "call") (option_copied c.next_word.result.1) item c.next_word.ensures same c.in_ok-read_called.ensures.event in
    (item, k.0, tt, k.1, refl)

pub returns-then-eq-2-clause-kept : goal.returns-then-eq-2-clause-kept
returns-then-eq-2-clause-kept c =
    let word = c.next_word.result.0.now in
    let item : Item = Happened c.in_ok-read_answered.field-0 in
    let same : word ≡ codes "answer" = (bytes_eq-Decides word (codes "answer")).0 (sym (c.if-eq-2.ensures ∙ ap (bytes_eq word) c.as_slice-2.ensures)) in
    let k = kept_line c.args.line.now word (codes "answer") (option_copied c.next_word.result.1) item c.next_word.ensures same c.in_ok-read_answered.ensures.event in
    (item, k.0, tt, k.1, refl)

pub returns-then-eq-3-clause-kept : goal.returns-then-eq-3-clause-kept
returns-then-eq-3-clause-kept c =
    let word = c.next_word.result.0.now in
    let item : Item = Ordered (record { key = c.in_ok-key.key; calls = c.in_ok-key.order }) in
    let same : word ≡ codes "sequence" = (bytes_eq-Decides word (codes "sequence")).0 (sym (c.if-eq-3.ensures ∙ ap (bytes_eq word) c.as_slice-3.ensures)) in
    let k = kept_line c.args.line.now word (codes "sequence") (option_copied c.next_word.result.1) item c.next_word.ensures same c.in_ok-key.ensures.spelt in
    (item, k.0, tt, k.1, refl)

pub returns-clause-kept : goal.returns-clause-kept
returns-clause-kept c =
    let word = c.next_word.result.0.now in
    let s = c.in_ok-read_passed.ensures.spelt in
    let k = kept_line c.args.line.now word word (option_copied c.next_word.result.1) s.0 c.next_word.ensures refl s.2 in
    (s.0, k.0, passed_of c.args.version s.0 s.1, k.1, s.1)
