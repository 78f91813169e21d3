-- Lines with their line feed
use Rattle.std.proofs.Common.{◌≡◌, ◌≢◌, ℕ, List, [], ◌∷◌, ◌++◌, drop, inl, sym, ap, subst, ◌∙◌, append_assoc, length-append}
use Rattle.std.proofs.lemmas.List.{drop_at}
use Rattle.rambo_text.specs.Words.{IsFirstLine}
use Rattle.rambo_text.specs.Versions.{head_line}
use Rattle.rambo_text.proofs.Heads.{head_line_lacks, same_lines}
use Rattle.rambo_text.proofs.WordSplits.{cut}
use Rattle.rambo_retrace.specs.Retraces.{IsWholeLine, IsUsed, TellsNoHead}

-- the first line is the one that has its line feed
pub same_whole : (bytes line other rest behind : List ℕ) (used : ℕ) → IsFirstLine bytes line rest → IsWholeLine bytes other behind → IsUsed other used → IsWholeLine bytes line behind × IsUsed line used
same_whole bytes line other rest behind used first whole is =
    let own : IsFirstLine bytes other behind = record { no_feed = whole.no_feed; whole = inl whole.whole } in
    let same : other ≡ line = (same_lines bytes other behind line rest own first).0 in
    (subst (λ l. IsWholeLine bytes l behind) same whole, subst (λ l. IsUsed l used) same is)

-- what stands behind a line once it was used
pub behind_used : (held line rest : List ℕ) (used : ℕ) → IsWholeLine held line rest → IsUsed line used → drop used held ≡ rest
behind_used held line rest used first is =
    let whole : held ≡ (line ++ 10 ∷ []) ++ rest = first.whole ∙ sym (append_assoc line (10 ∷ []) rest) in
    ap (drop used) whole ∙ drop_at (line ++ 10 ∷ []) rest used (length-append line (10 ∷ []) ∙ sym is)

-- nor does one whose first line is another
pub other_no_head : (held line rest : List ℕ) → IsWholeLine held line rest → line ≢ head_line → TellsNoHead held
other_no_head held line rest first other = λ behind e.
    other (cut 10 line head_line rest behind first.no_feed head_line_lacks (sym first.whole ∙ e ∙ append_assoc head_line (10 ∷ []) behind)).0
