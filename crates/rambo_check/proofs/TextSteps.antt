-- The steps of reading a text
use Rattle.std.proofs.Common.{◌≡◌, ◌≢◌, ◌⊎◌, inl, inr, ℕ, ◌+◌, true, List, [], ◌∷◌, ◌++◌, length, fold, Option, None, Some, unwrap_or, refl, sym, ap, ◌∙◌, subst, append_assoc, append-nil, length-append, arith}
use Rattle.std.specs.List.{AllByRecursion}
use Rattle.std.specs.Io.KnownBytes.{Consumes, IsAtEnd}
use Rattle.rambo_text.specs.declared.fault.Fault.{Fault}
use Rattle.rambo_text.specs.declared.fault.ReplayFault.{ReplayFault}
use Rattle.rambo_text.specs.declared.fault.ReplayFault.TheVariants.{Script}
use Rattle.rambo_text.specs.declared.fault.ScriptFault.{ScriptFault}
use Rattle.rambo_text.specs.declared.version.Version.{Version}
use Rattle.rambo_text.specs.declared.version.Version.TheVariants.{One, Two}
use Rattle.rambo_text.specs.Versions.{head_line as version_line, head_lines, IsHead, IsFirstOf, IsBadHead, IsBehindHead, in_whole}
use Rattle.rambo_text.proofs.FirstLines.{no_nothing}
use Rattle.rambo_text.proofs.Heads.{same_lines}
use Rattle.rambo_text.specs.Words.{Lacks, IsFirstLine, AreWords}
use Rattle.rambo_history.specs.Proper.{EverySplit}
use Rattle.rambo_atomic.specs.Unreads.{UnreadState, KnowsEnd, TakesIn, HoldsLine, IsDone}
use Rattle.std.proofs.KnownBytes.{Consumes-trans}
use Rattle.rambo_history.proofs.Splits.{splits-nil, splits-cons, splits-head, splits-tail}
use Rattle.rambo_check.specs.Lines.{Item, Happened, Collected, Settled, Refused, Ordered, OrderedAll, Mapped, item_words, item_line, items_text}
use Rattle.rambo_check.specs.Items.{IsItem, IsLineIn}
use Rattle.rambo_check.specs.EvidenceStates.{EvidenceState, no_evidence, with_item, evidence_of, IsBadItem, AreGood}
use Rattle.rambo_check.specs.Checks.{IsLeft}
use Rattle.rambo_check.specs.Readings.{IsMore, TakesHead, TakesLine}
use Rattle.rambo_check.specs.Texts.{IsTold, IsToldIn, IsFaultBehind, IsTextFault, IsHeadFault, IsFaultIn}
use Rattle.rambo_check.proofs.ItemTexts.{items-append}

-- what holds before a line behind the head is read: what was held at the start, and what was read then, is used or held
pub record ReadSoFar (version : Version) (start : UnreadState) (first left : Option (List ℕ)) (s : EvidenceState) (u : UnreadState) (line : ℕ) : Type 0 where
  pub used : List ℕ
  pub items : List Item
  pub good : AreGood version items
  pub lines : (used ≡ items_text items) ⊎ (IsDone u × (used ++ 10 ∷ [] ≡ items_text items))
  pub text : TakesIn first left start.held (used ++ u.held)
  pub ended : start.ended ≡ true → (u.ended ≡ true) × (text.0 ≡ [])
  pub number : line ≡ length items + head_lines version
  pub evidence : s ≡ evidence_of version items

splits-push : {X : Type 0} (P : List X → X → Type 0) (xs : List X) (x : X) → EverySplit (λ f y b. P f y) xs → P xs x → EverySplit (λ f y b. P f y) (xs ++ x ∷ [])
splits-push P [] x all here = splits-cons (λ f y b. P f y) x [] here (splits-nil (λ f y b. P (x ∷ f) y))
splits-push P (y ∷ ys) x all here =
    splits-cons (λ f z b. P f z) y (ys ++ x ∷ []) (splits-head (λ f z b. P f z) y ys all)
    (splits-push (λ f. P (y ∷ f)) ys x (splits-tail (λ f z b. P f z) y ys all) here)

fold-push : {X S : Type 0} (f : S → X → S) (z : S) (xs : List X) (x : X) → fold f z (xs ++ x ∷ []) ≡ f (fold f z xs) x
fold-push f z [] x = refl
fold-push f z (y ∷ ys) x = fold-push f (f z y) ys x

all-push : (P : Item → Type 0) (items : List Item) (i : Item) → AllByRecursion P items → P i → AllByRecursion P (items ++ i ∷ [])
all-push P [] i all one = (one, tt)
all-push P (j ∷ js) i all one = (all.0, all-push P js i all.1 one)

length-push : (items : List Item) (i : Item) → length (items ++ i ∷ []) ≡ length items + 1
length-push items i = length-append items (i ∷ [])

-- the start
none_used : (left : Option (List ℕ)) → Consumes left left []
none_used None = tt
none_used (Some xs) = refl

pub read_start : (version : Version) (left : Option (List ℕ)) (s : EvidenceState) (u : UnreadState) → s ≡ no_evidence version
    → ReadSoFar version u left left s u (head_lines version)
read_start version left s u none = record {
  used = [];
  items = [];
  good = record { in_range = tt; of_version = tt; none_bad = splits-nil (λ f i b. ¬ (IsBadItem (evidence_of version f) i)) };
  lines = inl refl;
  text = ([], none_used left, sym (append-nil u.held));
  ended = λ e. (e, refl);
  number = omega arith;
  evidence = none;
}

-- more was read
still_done : (used text : List ℕ) (u v : UnreadState) → (u.ended ≡ true → v ≡ u) → (used ≡ text) ⊎ (IsDone u × (used ++ 10 ∷ [] ≡ text)) → (used ≡ text) ⊎ (IsDone v × (used ++ 10 ∷ [] ≡ text))
still_done used text u v same (inl e) = inl e
still_done used text u v same (inr e) = inr (subst IsDone (sym (same e.0.1)) e.0, e.1)

no_more : (xs ys : List ℕ) → xs ≡ xs ++ ys → ys ≡ []
no_more xs [] e = refl
no_more xs (y ∷ ys) e = absurd (let many = ap length e ∙ length-append xs (y ∷ ys) in omega (arith, many))

pub read_more : (version : Version) (start : UnreadState) (first left new : Option (List ℕ)) (s : EvidenceState) (u v : UnreadState) (line : ℕ) → ReadSoFar version start first left s u line
    → TakesIn left new u.held v.held → (u.ended ≡ true → v ≡ u) → ReadSoFar version start first new s v line
read_more version start first left new s u v line now taken same =
    let given = now.text.0 in
    let more = taken.0 in
    record {
      used = now.used;
      items = now.items;
      good = now.good;
      lines = still_done now.used (items_text now.items) u v same now.lines;
      text = (
        given ++ more,
        Consumes-trans first left new given more now.text.1 taken.1,
        ap (λ h. now.used ++ h) taken.2 ∙ sym (append_assoc now.used u.held more) ∙ ap (λ h. h ++ more) now.text.2 ∙ append_assoc start.held given more,
      );
      ended = λ e.
          let before = now.ended e in
          let kept : v ≡ u = same before.0 in
          let none : more ≡ [] = no_more u.held more (ap (λ (w : UnreadState). w.held) (sym kept) ∙ taken.2) in
          (ap (λ (w : UnreadState). w.ended) kept ∙ before.0, (λ i. before.1 i ++ none i));
      number = now.number;
      evidence = now.evidence;
    }

items-push : (items : List Item) (i : Item) → items_text (items ++ i ∷ []) ≡ items_text items ++ item_line i
items-push items i = items-append items (i ∷ []) ∙ ap (λ t. items_text items ++ t) (append-nil (item_line i))

-- a text with a line feed isn't one line without
lacks_no_feed : (front back : List ℕ) → Lacks 10 (front ++ 10 ∷ back) → ⊥
lacks_no_feed [] back lacks = lacks.0 refl
lacks_no_feed (b ∷ front) back lacks = lacks_no_feed front back lacks.1

-- the last line may lack its line feed
is_last : (u : UnreadState) (words : List ℕ) → HoldsLine u → Lacks 10 words → u.held ≡ words → u.ended ≡ true
is_last u words holds lacks e =
    elim holds.1 [
      | inl feed ↦ absurd (lacks_no_feed feed.0 feed.1 (subst (Lacks 10) (sym e ∙ feed.2) lacks))
      | inr ended ↦ ended
    ]

-- what is used of a text once its first line is
pub record LineUsed (u v : UnreadState) (used : List ℕ) (items : List Item) : Type 0 where
  pub bytes : List ℕ
  pub held : used ++ u.held ≡ bytes ++ v.held
  pub lines : (bytes ≡ items_text items) ⊎ (IsDone v × (bytes ++ 10 ∷ [] ≡ items_text items))

line_used : (u v : UnreadState) (used words : List ℕ) (items : List Item) (i : Item) → HoldsLine u → IsFirstLine u.held words v.held → v.ended ≡ u.ended
    → AreWords words (item_words i) → (used ≡ items_text items) ⊎ (IsDone u × (used ++ 10 ∷ [] ≡ items_text items)) → LineUsed u v used (items ++ i ∷ [])
line_used u v used words items i holds first same spelt (inr done) = absurd (holds.0 done.0.0)
line_used u v used words items i holds first same spelt (inl now) =
    elim first.whole [
      | inl e ↦ record {
        bytes = used ++ (words ++ 10 ∷ []);
        held = ap (λ h. used ++ h) (e ∙ sym (append_assoc words (10 ∷ []) v.held)) ∙ sym (append_assoc used (words ++ 10 ∷ []) v.held);
        lines = inl ((λ j. now j ++ (spelt.whole j ++ 10 ∷ [])) ∙ sym (items-push items i));
      }
      | inr e ↦ record {
        bytes = used ++ words;
        held = ap (λ h. used ++ h) e.0 ∙ sym (append-nil (used ++ words)) ∙ ap (λ h. (used ++ words) ++ h) (sym e.1);
        lines = inr (
          (e.1, same ∙ is_last u words holds first.no_feed e.0),
          append_assoc used words (10 ∷ []) ∙ (λ j. now j ++ (spelt.whole j ++ 10 ∷ [])) ∙ sym (items-push items i),
        );
      }
    ]

-- a line more
pub read_on : (version : Version) (start : UnreadState) (first left : Option (List ℕ)) (s new : EvidenceState) (u v : UnreadState) (line : ℕ) → ReadSoFar version start first left s u line → HoldsLine u
    → TakesLine version u.held v.held s new → v.ended ≡ u.ended → ReadSoFar version start first left new v (line + 1)
read_on version start first left s new u v line now holds taken same =
    let i = taken.item in
    let now_used = line_used u v now.used taken.line now.items i holds taken.first same taken.words now.lines in
    record {
      used = now_used.bytes;
      items = now.items ++ i ∷ [];
      good = record {
        in_range = all-push IsItem now.items i now.good.in_range taken.in_range;
        of_version = all-push (IsLineIn version) now.items i now.good.of_version taken.of_version;
        none_bad = splits-push (λ f j. ¬ (IsBadItem (evidence_of version f) j)) now.items i now.good.none_bad (subst (λ t. ¬ (IsBadItem t i)) now.evidence taken.good);
      };
      lines = now_used.lines;
      text = (now.text.0, now.text.1, sym now_used.held ∙ now.text.2);
      ended = λ e. (same ∙ (now.ended e).0, (now.ended e).1);
      number = (let before = now.number in omega (arith, before, length-push now.items i));
      evidence = taken.taken ∙ ap (λ t. with_item t i) now.evidence ∙ sym (fold-push with_item (no_evidence version) now.items i);
    }

-- the text that was left at first
abbrev later : Option (List ℕ) → List ℕ
later left = unwrap_or left []

all_left : (first left : Option (List ℕ)) (bytes : List ℕ) → Consumes first left bytes → IsLeft first (bytes ++ later left)
all_left None left bytes c = tt
all_left (Some xs) None bytes c = absurd c
all_left (Some xs) (Some ys) bytes c = sym c

none_later : (left : Option (List ℕ)) → IsAtEnd left → later left ≡ []
none_later None e = refl
none_later (Some xs) e = e

-- what was read since the start, and what is left, may come behind what was held then
all_more : (start : UnreadState) (first left : Option (List ℕ)) (u : UnreadState) (whole : List ℕ) (taken : TakesIn first left start.held whole)
    → (start.ended ≡ true → (u.ended ≡ true) × (taken.0 ≡ [])) → KnowsEnd u left
    → IsMore start first (taken.0 ++ later left) × (start.held ++ (taken.0 ++ later left) ≡ whole ++ later left)
all_more start first left u whole taken ended known = (
  (all_left first left taken.0 taken.1, λ e. (λ i. (ended e).1 i ++ none_later left (known (ended e).0) i)),
  sym (append_assoc start.held taken.0 (later left)) ∙ ap (λ h. h ++ later left) (sym taken.2),
)

-- nothing is left
pub read_end : (version : Version) (start : UnreadState) (first left : Option (List ℕ)) (s : EvidenceState) (u : UnreadState) (line : ℕ) → ReadSoFar version start first left s u line → IsDone u → KnowsEnd u left
    → (more : List ℕ) × IsMore start first more × IsTold version (start.held ++ more) s
read_end version start first left s u line now done known =
    let whole : (now.used ++ u.held) ++ later left ≡ now.used = (λ j. (now.used ++ done.0 j) ++ none_later left (known done.1) j) ∙ append-nil (now.used ++ []) ∙ append-nil now.used in
    let more = all_more start first left u (now.used ++ u.held) now.text now.ended known in (
      now.text.0 ++ later left,
      more.0,
      subst (λ t. IsTold version t s) (sym (more.1 ∙ whole))
          (record {
            items = now.items;
            good = now.good;
            lines = elim now.lines [
              | inl e ↦ inl e
              | inr e ↦ inr e.1
            ];
            evidence = now.evidence;
          }),
    )

-- bytes behind a line that is held leave it the first
pub line_with : (u : UnreadState) (more words rest : List ℕ) → HoldsLine u → (u.ended ≡ true → more ≡ []) → IsFirstLine u.held words rest → IsFirstLine (u.held ++ more) words (rest ++ more)
line_with u more words rest holds none first = record {
  no_feed = first.no_feed;
  whole = elim first.whole [
    | inl e ↦ inl (ap (λ h. h ++ more) e ∙ append_assoc words (10 ∷ rest) more)
    | inr e ↦
        let no : more ≡ [] = none (is_last u words holds first.no_feed e.0) in
        inr ((λ j. e.0 j ++ no j) ∙ append-nil words, (λ j. e.1 j ++ no j))
  ];
}

used_whole : (used held : List ℕ) (items : List Item) (u : UnreadState) (more : List ℕ) → HoldsLine u → (used ≡ items_text items) ⊎ (IsDone u × (used ++ 10 ∷ [] ≡ items_text items))
    → (used ++ held) ++ more ≡ items_text items ++ (held ++ more)
used_whole used held items u more holds (inl e) = append_assoc used held more ∙ ap (λ t. t ++ (held ++ more)) e
used_whole used held items u more holds (inr e) = absurd (holds.0 e.0.0)

still_there : (held more : List ℕ) → held ≢ [] → held ++ more ≢ []
still_there [] more some e = some refl
still_there (b ∷ held) more some e = cc

-- a line is faulty
pub read_fault : (version : Version) (start : UnreadState) (first left : Option (List ℕ)) (s : EvidenceState) (u : UnreadState) (line : ℕ) (words rest : List ℕ) (f : Fault)
    → ReadSoFar version start first left s u line → HoldsLine u → KnowsEnd u left → IsFirstLine u.held words rest → IsFaultBehind version s words f
    → (more : List ℕ) × (h : ScriptFault) × IsMore start first more × IsTextFault version (start.held ++ more) h × (record { fault = f; line = line + 1 } ≡ in_whole version h)
read_fault version start first left s u line words rest f now holds known is_first bad =
    let more = all_more start first left u (now.used ++ u.held) now.text now.ended known in
    let number : line + 1 ≡ length now.items + 1 + head_lines version = (let before = now.number in omega (arith, before)) in (
      now.text.0 ++ later left,
      record { fault = f; line = length now.items + 1 },
      more.0,
      record {
        items = now.items;
        good = now.good;
        line = words;
        rest = rest ++ later left;
        left = u.held ++ later left;
        whole = more.1 ∙ used_whole now.used u.held now.items u (later left) holds now.lines;
        there = still_there u.held (later left) holds.0;
        first = line_with u (later left) words rest holds (λ e. none_later left (known e)) is_first;
        number = refl;
        fault = subst (λ t. IsFaultBehind version t words f) now.evidence bad;
      },
      λ i. record { fault = f; line = number i },
    )

-- the version is told by the first line, and the rest is read behind it
given_more : (first left : Option (List ℕ)) (held more : List ℕ) → Consumes first left held → IsLeft left more → IsLeft first (held ++ more)
given_more None left held more c is = tt
given_more (Some xs) None held more c is = absurd c
given_more (Some xs) (Some ys) held more c is = ap (λ m. held ++ m) is ∙ sym c

pub taken_more : (first left : Option (List ℕ)) (held more : List ℕ) → TakesIn first left [] held → IsLeft left more → IsLeft first (held ++ more)
taken_more first left held more taken is = given_more first left held more (subst (Consumes first left) (sym taken.2) taken.1) is

-- an empty text is one of version 1
no_words : (others : List (List ℕ)) → ¬ (IsHead [] others)
no_words others head = let whole = head.whole in cc

pub none_told : (more : List ℕ) → more ≡ [] → IsBehindHead One more more
none_told more none = (
  λ line rest first. elim first.whole [
    | inl feed ↦ absurd (no_nothing line rest (sym none ∙ feed))
    | inr all ↦ subst (IsFirstOf One) (sym none ∙ all.0) no_words
  ],
  refl,
)

pub head_told : (version : Version) (u v : UnreadState) (more : List ℕ) → HoldsLine u → (u.ended ≡ true → more ≡ []) → TakesHead version u.held v.held
    → IsBehindHead version (u.held ++ more) (v.held ++ more)
head_told One u v more holds none taken = (
  λ line rest first.
      let same = (same_lines (u.held ++ more) taken.0 (taken.1 ++ more) line rest (line_with u more taken.0 taken.1 holds none taken.2) first).0 in
      subst (IsFirstOf One) same taken.3,
  ap (λ h. h ++ more) (sym taken.4),
)
head_told Two u v more holds none taken = line_with u more version_line v.held holds none taken

pub bad_head_told : (u : UnreadState) (first left : Option (List ℕ)) (words rest : List ℕ) (f : Fault) → TakesIn first left [] u.held → HoldsLine u → KnowsEnd u left
    → IsFirstLine u.held words rest → IsBadHead words f → (text : List ℕ) × IsLeft first text × IsHeadFault text (record { fault = f; line = 1 })
bad_head_told u first left words rest f taken holds known is_first bad = (
  u.held ++ later left,
  all_left first left u.held (subst (Consumes first left) (sym taken.2) taken.1),
  record { line = words; rest = rest ++ later left; is_first = line_with u (later left) words rest holds (λ e. none_later left (known e)) is_first; fault = bad; number = refl },
)

-- what was told behind the head, of the whole text
module _ (first left : Option (List ℕ)) (version : Version) (u : UnreadState)
    (head : (more : List ℕ) → IsMore u left more → (text : List ℕ) × IsLeft first text × IsBehindHead version text (u.held ++ more)) where
  pub told_in : (s : EvidenceState) → (more : List ℕ) × IsMore u left more × IsTold version (u.held ++ more) s → (text : List ℕ) × IsLeft first text × IsToldIn version text s
  told_in s told = let whole = head told.0 told.1 in (whole.0, whole.1, (u.held ++ told.0, whole.2, told.2))

  pub fault_in : (end : Option (List ℕ)) (f : ReplayFault)
      → ((g : ScriptFault) → f ≡ Script g → (more : List ℕ) × (h : ScriptFault) × IsMore u left more × IsTextFault version (u.held ++ more) h × (g ≡ in_whole version h) × IsAtEnd end)
      → (g : ScriptFault) → f ≡ Script g → (text : List ℕ) × IsLeft first text × IsFaultIn text g × IsAtEnd end
  fault_in end f told g is =
      let there = told g is in
      let whole = head there.0 there.2 in
      (whole.0, whole.1, inr (version, u.held ++ there.0, there.1, whole.2, there.3, there.4), there.5)

-- as many lines are read as were told, and the head
lines-of : (s : EvidenceState) (items : List Item) → (fold with_item s items).lines ≡ length items + s.lines
lines-of s [] = omega arith
lines-of s (i ∷ items) = let rest = lines-of (with_item s i) items in let one = by i in omega (arith, rest, one)
  where
    by : (i : Item) → (with_item s i).lines ≡ s.lines + 1
    by (Happened e) = refl
    by (Collected name place) = refl
    by (Settled name place conf) = refl
    by (Refused step number) = refl
    by (Ordered o) = refl
    by (OrderedAll calls) = refl
    by (Mapped name floor confs) = refl

pub lines_so_far : (version : Version) (start : UnreadState) (first left : Option (List ℕ)) (s : EvidenceState) (u : UnreadState) (line : ℕ)
    → ReadSoFar version start first left s u line → s.lines ≡ line
lines_so_far version start first left s u line now =
    ap (λ (t : EvidenceState). t.lines) now.evidence ∙ lines-of (no_evidence version) now.items ∙ sym now.number
