-- That the numbers behind the options of `serve` lie in their ranges, where clap finds no fault
use Rattle.std.proofs.Common.{◌≡◌, ◌∙◌, ◌<◌, ◌≤◌, ◌<◌, ℕ, Bool, true, false, cond, refl, sym, ap, subst, inl, inr, List, [], codes, arith, true≢false}
use Rattle.std.specs.Prelude.{Option, Some, None, option_map, slice_get}
use Rattle.std.specs.List.{AllByRecursion, find, slice_index_or}
use Rattle.std.specs.Option.{option_and_then, option_map_or}
use Rattle.std.specs.Str.{bytes_eq}
use Rattle.std.specs.Str.Parse.{IsNumeral, without_leading_plus}
use Rattle.clap.specs.Kinds.{Kinds, value_kinds}
use Rattle.clap.specs.Matches.{found_of, one_text}
use Rattle.clap.specs.Values.{Accepts}
use Rattle.clap.specs.Walk.{Row, Rule, Text, action_of, arg_by_id, first_of, one_of, row_text, rows_of, stop_after}
use Rattle.clap.specs.Simple.{argument_words, built, built_leaf, inherited, marked_built, names_of, new_rule, subcommand_of, with_leaf_noted}
use Rattle.clap.specs.Faults.{fault_of}
use Rattle.clap.proofs.ValueTestLemmas.{accepts-Accepts}
use Rattle.clap.proofs.WalkLemmas.{one_text-rows}
use Rattle.clap.specs.declared.builder.action.ArgAction.TheVariants.{Set}
use Rattle.clap.specs.declared.builder.value_parser.ValueParser.TheVariants.{Unsigned}
use Rattle.clap.specs.declared.parser.matches.ArgMatches.{ArgMatches}
use Rattle.rambo_command_line.proofs.NoKinds.{first_none, second_none, some_kind}
use Rattle.rambo_command_line.proofs.Passed.{AreOptions, Fits, entered_fits, read_passes}
use Rattle.rambo_command_line.specs.Lines.{IsNumberBehind, flag_told, number_of, rambo, serve_name, with_options, word_behind}

-- the options of `serve` as clap has built them
abbrev pub options : List Rule
options = (built_leaf (inherited (with_leaf_noted (marked_built rambo.top)) with_options)).rules

are_options : AreOptions options
are_options = record {
  options = (inl (refl, refl), (inl (refl, refl), (inl (refl, refl), (inl (refl, refl), (inl (refl, refl), (inl (refl, refl), (inl (refl, refl), (inr (inl (refl, refl)), (inr (inl (refl, refl)), (inl (refl, refl), (inr (inl (refl, refl)), (inr (inl (refl, refl)), (inr (inr refl), tt)))))))))))));
  defaults = (inl refl, (inl refl, (inl refl, (inl refl, (inl refl, (inl refl, (inl refl, (inr (refl, refl), (inr (refl, refl), (inl refl, (inr (refl, refl), (inr (refl, refl), (inl refl, tt)))))))))))));
}

other_name : (name : Text) → bytes_eq name serve_name ≡ false → name ≡ serve_name → ⊥
other_name name other same = true≢false (sym (ap (λ n. bytes_eq n serve_name) same) ∙ other)

fits_serve : (words : List Text) (rows : List Row) → fault_of rambo words ≡ [] → subcommand_of rambo words ≡ Some (serve_name, rows) → AllByRecursion (Fits options) rows
fits_serve words rows fine is =
    entered_fits (built rambo) (stop_after (built rambo).top.rules (names_of (built rambo)) (argument_words rambo words)) serve_name rows options (
      λ e. absurd (other_name (codes "replay") refl e),
      (
        λ e. absurd (other_name (codes "check") refl e),
        (
          λ e. absurd (other_name (codes "local") refl e),
          (λ e. (refl, are_options), (λ e. absurd (other_name (codes "help") refl e), tt)),
        ),
      ),
    )
    (first_none _ _ (second_none _ _ fine)) is

-- an option of a number in a range
pub record IsNumberOption (option : Text) (least most : ℕ) (a : Rule) : Type 0 where
  pub is : arg_by_id options a.id ≡ Some a
  pub action : action_of a ≡ Set
  pub id : a.id ≡ option
  pub parser : a.parser ≡ Some (Unsigned least most)
  pub case : a.ignore_case ≡ false

-- the option at a place among them
abbrev pub option_at : ℕ → Rule
option_at k = slice_index_or options k (new_rule [])

pub number_option : (option : Text) (least most k : ℕ) → arg_by_id options (option_at k).id ≡ Some (option_at k) → action_of (option_at k) ≡ Set → (option_at k).id ≡ option
    → (option_at k).parser ≡ Some (Unsigned least most) → (option_at k).ignore_case ≡ false → IsNumberOption option least most (option_at k)
number_option option least most k is action id parser case = record { is = is; action = action; id = id; parser = parser; case = case }

none_read : (id : Text) (rows : List Row) → first_of id rows ≡ None → one_of id rows ≡ None
none_read id rows none = at (find (λ r. bytes_eq r.id id) rows) none
  where
    at : (o : Option Row) → option_and_then (λ r. slice_get r.values 0) o ≡ None → option_and_then row_text o ≡ None
    at None e = refl
    at (Some r) e = ap (option_map _) e

accepted : (b : Bool) (kinds : Kinds) → cond b [] kinds ≡ [] → (kinds ≡ [] → ⊥) → b ≡ true
accepted true kinds e some = refl
accepted false kinds e some = absurd (some e)

-- what a getter gives of a number is the number behind its option
module _ (words : List Text) (sub : ArgMatches) (fine : fault_of rambo words ≡ []) (is : subcommand_of rambo words ≡ Some (serve_name, rows_of (found_of sub))) where
  pub behind : (option : Text) → word_behind option words ≡ first_of option (rows_of (found_of sub))
  behind option = ap (option_and_then (λ p. first_of option p.1)) is

  -- what clap tells of a flag
  pub flag_is : (option : Text) → flag_told option words ≡ one_text (found_of sub) option
  flag_is option = ap (option_and_then (λ p. one_of option p.1)) is ∙ sym (one_text-rows (found_of sub) option)

  pub told : (option : Text) (other least most limit n : ℕ) (a : Rule) → IsNumberOption option least most a → most < limit → least ≤ other → other ≤ most
      → (one_text (found_of sub) option ≡ None → n ≡ other)
      → ((word : Text) → one_text (found_of sub) option ≡ Some word → IsNumeral 10 (without_leading_plus word) → number_of word < limit → n ≡ number_of word)
      → IsNumberBehind option other least most words n
  told option other least most limit n a has fits from to none some = at (first_of option (rows_of (found_of sub))) refl
    where
      at : (o : Option Text) → first_of option (rows_of (found_of sub)) ≡ o → IsNumberBehind option other least most words n
      at None first =
          let same : n ≡ other = none (one_text-rows (found_of sub) option ∙ none_read option (rows_of (found_of sub)) first) in
          record {
            number = same ∙ sym (ap (λ o. option_map_or number_of o other) (behind option ∙ first));
            from = subst (λ k. least ≤ k) (sym same) from;
            to = subst (λ k. k ≤ most) (sym same) to;
          }
      at (Some word) first =
          let pass = read_passes options (rows_of (found_of sub)) a word (fits_serve words _ fine is) has.is has.action (ap (λ id. first_of id (rows_of (found_of sub))) has.id ∙ first) in
          let kinds : value_kinds false (Unsigned least most) word ≡ [] =
          subst (λ c. value_kinds c (Unsigned least most) word ≡ []) has.case (subst (λ p. value_kinds a.ignore_case (Rattle.clap.specs.Facts.parser_of_value p) word ≡ []) has.parser pass.0) in
          let within : Accepts false (Unsigned least most) word = accepts-Accepts false (Unsigned least most) word (accepted _ _ kinds (some_kind _ _)) in
          let text : one_text (found_of sub) option ≡ Some word =
          one_text-rows (found_of sub) option ∙ ap (λ id. one_of id (rows_of (found_of sub))) (sym has.id) ∙ pass.1
          ∙ ap (λ p. Some (Rattle.clap.specs.Values.read_as (Rattle.clap.specs.Values.reading_of (Rattle.clap.specs.Facts.parser_of_value p)) word)) has.parser in
          let same : n ≡ number_of word = some word text within.0 (omega (arith, within.3, fits)) in
          record {
            number = same ∙ sym (ap (λ o. option_map_or number_of o other) (behind option ∙ first));
            from = subst (λ k. least ≤ k) (sym same) within.2;
            to = subst (λ k. k ≤ most) (sym same) within.3;
          }
