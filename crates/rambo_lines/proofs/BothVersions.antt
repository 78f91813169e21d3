-- Scripts of both versions
use Rattle.std.proofs.Common.{◌≡◌, ℕ, ◌+◌, ◌<◌, List, ◌∷◌, length, codes, inl, inr, refl, sym, ap, subst, ◌∙◌, arith}
use Rattle.rambo_names.specs.Weights.{Weights}
use Rattle.rambo_text.specs.declared.fault.ScriptFault.{ScriptFault}
use Rattle.rambo_text.specs.declared.version.Version.{Version}
use Rattle.rambo_text.specs.declared.version.Version.TheVariants.{One, Two}
use Rattle.rambo_text.specs.Versions.{head_line, IsFirstOf, IsBehindHead, BehindHead, TellNoVersion, in_whole}
use Rattle.rambo_text.specs.Words.{IsFirstLine}
use Rattle.rambo_text.proofs.Heads.{head_line_lacks, same_lines, one_head, no_version_once, no_bad_head, no_bad_first}
use Rattle.rambo_text.proofs.WordSplits.{same_words}
use Rattle.rambo_lines.specs.Scripts.{ScriptState, IsScript, founders_line, founders_words, steps_text, script_text}
use Rattle.rambo_lines.specs.Faults.{IsScriptFault, IsLineFault}
use Rattle.rambo_lines.specs.Laws.{OneReading, WrittenReadsBack, NoScriptIsFaulty, OneFault}
use Rattle.rambo_lines.specs.Versions.{IsScriptIn, IsHeadFault, text_in}
use Rattle.rambo_lines.proofs.FaultOnce.{line_once, one_fault_is}
use Rattle.rambo_text.proofs.FirstLines.{first_line_is}
use Rattle.rambo_lines.proofs.Texts.{founders_are_words, founders_lack, no_fault_is, one_reading_is, reads_back_is}

pub one_script : OneReading
one_script bytes v w s t a b =
    let head = one_head bytes v w a.0 b.0 a.1 b.1 in
    (head.0, one_reading_is a.0 s t a.2 (subst (λ c. IsScript c t) (sym head.1) b.2))

-- the line of the founders tells no version
unheaded : (founders : Weights) → IsFirstOf One (founders_line founders)
unheaded founders others head =
    let words = same_words (founders_line founders) (codes "rambo" ∷ others) (founders_words founders) head (founders_are_words founders) in cc

written : (v : Version) (s : ScriptState) → IsBehindHead v (text_in v s) (script_text s)
written One s = (
  λ line rest first. subst (IsFirstOf One) (sym (first_line_is (founders_line s.founders) (steps_text s.steps) (script_text s) line rest (founders_lack s.founders) (inl refl) first)) (unheaded s.founders),
  refl,
)
written Two s = record { no_feed = head_line_lacks; whole = inl refl }

pub reads_back_in : WrittenReadsBack
reads_back_in v s lines =
    let is : IsScriptIn v (text_in v s) s = (script_text s, written v s, (reads_back_is s lines).0) in
    (is, λ w t other. one_script (text_in v s) w v t s other is)

-- a fault of the head is one of a text of version 1: that the first line is too long
long_head : (line : List ℕ) → line ≡ head_line → 16384 < length line → ⊥
long_head line is long = let few : length line ≡ 7 = ap length is in omega (arith, few, long)

pub head_fault_is : (bytes behind : List ℕ) (v : Version) (f : ScriptFault) → IsBehindHead v bytes behind → IsHeadFault bytes f → (v ≡ One) × IsScriptFault behind f
head_fault_is bytes behind One f is bad = elim bad.fault [
  | inl long ↦ (refl, inl (record { line = bad.line; rest = bad.rest; is_first = subst (λ b. IsFirstLine b bad.line bad.rest) is.1 bad.is_first; fault = inl long; number = bad.number }))
  | inr none ↦ absurd (no_bad_first bad.line f.fault (is.0 bad.line bad.rest bad.is_first) none.1)
]
head_fault_is bytes behind Two f is bad =
    let same = (same_lines bytes bad.line bad.rest head_line behind bad.is_first is).0 in
    elim bad.fault [
      | inl long ↦ absurd (long_head bad.line same long.0)
      | inr none ↦ absurd (no_bad_head bad.line f.fault same none.1)
    ]

pub no_script_faulty : NoScriptIsFaulty
no_script_faulty bytes v s f told (inl bad) = no_fault_is told.0 s f told.2 (head_fault_is bytes told.0 v f told.1 bad).1
no_script_faulty bytes v s f told (inr bad) =
    let head = one_head bytes v bad.0 told.0 bad.1 told.1 bad.3 in
    no_fault_is bad.1 s bad.2 (subst (λ b. IsScript b s) head.1 told.2) bad.4

both_heads : (bytes : List ℕ) (f g : ScriptFault) → IsHeadFault bytes f → IsHeadFault bytes g → f ≡ g
both_heads bytes f g a b =
    let line = (same_lines bytes b.line b.rest a.line a.rest b.is_first a.is_first).0 in
    let fault = line_once TellNoVersion no_version_once a.line f.fault g.fault a.fault (subst (λ l. IsLineFault TellNoVersion l g.fault) line b.fault) in
    let number = a.number ∙ sym b.number in
    (λ i. record { fault = fault i; line = number i })

-- of version 1 the lines keep their numbers
kept : (v : Version) (f : ScriptFault) → v ≡ One → in_whole v f ≡ f
kept v f is = ap (λ w. in_whole w f) is ∙ (let none : f.line + 0 ≡ f.line = omega arith in λ i. record { fault = f.fault; line = none i })

head_or_behind : (bytes : List ℕ) (f g : ScriptFault) → IsHeadFault bytes f → BehindHead (λ version. IsScriptFault) bytes g → f ≡ g
head_or_behind bytes f g a b =
    let head = head_fault_is bytes b.1 b.0 f b.3 a in
    one_fault_is b.1 f b.2 head.1 b.4 ∙ sym (kept b.0 b.2 head.0) ∙ sym b.5

both_behind : (bytes : List ℕ) (f g : ScriptFault) → BehindHead (λ version. IsScriptFault) bytes f → BehindHead (λ version. IsScriptFault) bytes g → f ≡ g
both_behind bytes f g a b =
    let head = one_head bytes b.0 a.0 b.1 a.1 b.3 a.3 in
    let same = one_fault_is a.1 a.2 b.2 a.4 (subst (λ t. IsScriptFault t b.2) head.1 b.4) in
    a.5 ∙ (λ i. in_whole (sym head.0 i) (same i)) ∙ sym b.5

pub one_fault_in : OneFault
one_fault_in bytes f g (inl a) (inl b) = both_heads bytes f g a b
one_fault_in bytes f g (inl a) (inr b) = head_or_behind bytes f g a b
one_fault_in bytes f g (inr a) (inl b) = sym (head_or_behind bytes g f b a)
one_fault_in bytes f g (inr a) (inr b) = both_behind bytes f g a b

-- what the first line tells of the version
pub head_fault : (bytes line rest : List ℕ) (f : ScriptFault) → IsFirstLine bytes line rest → f.line ≡ 1 → IsLineFault TellNoVersion line f.fault → IsHeadFault bytes f
head_fault bytes line rest f first number fault = record { line = line; rest = rest; is_first = first; fault = fault; number = number }

pub behind_one : (v : Version) (bytes line rest : List ℕ) → v ≡ One → IsFirstLine bytes line rest → IsFirstOf v line → IsBehindHead v bytes bytes
behind_one v bytes line rest is first found =
    subst (λ u. IsBehindHead u bytes bytes) (sym is)
    (λ other more there. subst (IsFirstOf One) (same_lines bytes line rest other more first there).0 (subst (λ u. IsFirstOf u line) is found), refl)

pub behind_two : (v : Version) (bytes line rest : List ℕ) → v ≡ Two → IsFirstLine bytes line rest → IsFirstOf v line → IsBehindHead v bytes rest
behind_two v bytes line rest is first found =
    subst (λ u. IsBehindHead u bytes rest) (sym is) (subst (λ l. IsFirstLine bytes l rest) (subst (λ u. IsFirstOf u line) is found) first)
