use Rattle.std.proofs.Common.{◌≡◌, ◌++◌, ◌∷◌, [], List, ℕ, codes, decimal, ap, ◌∙◌, append_assoc}
use Rattle.rambo_resp.specs.Faults.{number_of}
use Rattle.rambo_connection.proofs.outgoing.append_fault_line.Goals as goal

-- three lists, appended one by one
three : (o a s d e i j k : List ℕ) → d ≡ s → i ≡ o ++ a → j ≡ i ++ d → k ≡ j ++ e → k ≡ o ++ (a ++ (s ++ e))
three o a s d e i j k z p q r = r ∙ ap (λ x. x ++ e) (q ∙ ap (λ x. i ++ x) z ∙ ap (λ x. x ++ s) p) ∙ simp append_assoc

pub returns-clause-ok : goal.returns-clause-ok
returns-clause-ok c =
    three c.args.out.now.items (codes "-ERR protocol fault P") (decimal (number_of c.args.fault)) c.as_bytes.result.now (13 ∷ 10 ∷ []) c.extend_from_slice.new.self.items c.extend_from_slice-2.new.self.items c.extend_from_slice-3.new.self.items
    (c.as_bytes.ensures.value ∙ c.format.ensures.text ∙ ap decimal c.number.ensures)
    c.in_ok-extend_from_slice.ensures.ok c.in_ok-extend_from_slice-2.ensures.ok c.in_ok-extend_from_slice-3.ensures.ok
