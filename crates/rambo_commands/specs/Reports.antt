-- What a server reports of itself
use Rattle.std.specs.Prelude.{ℕ, List, [], ◌∷◌, ◌++◌, map, codes, decimal}
use Rattle.rambo_names.specs.Weights.{Weights}
use Rattle.rambo_names.specs.Signs.{conf_text}
use Rattle.rambo_text.specs.Words.{more_words}
use Rattle.rambo_resp.specs.declared.reply.Reply.{Reply}
use Rattle.rambo_resp.specs.declared.reply.Reply.TheVariants as reply
use Rattle.rambo_commands.specs.declared.report.Report.{Report}

-- a text and after it a line with a name and a count
abbrev pub with_line : List ℕ → List ℕ → ℕ → List ℕ
with_line text name count = (((text ++ name) ++ 32 ∷ []) ++ decimal count) ++ 10 ∷ []

-- a text and after it a line for each count
abbrev pub with_counts : List ℕ → Report → List ℕ
with_counts text r =
    with_line
    (with_line
    (with_line
    (with_line
    (with_line
    (with_line
    (with_line
    (with_line text (codes "steps") r.steps)
    (codes "steps_at_hand") r.steps_at_hand)
    (codes "steps_at_most") r.steps_at_most)
    (codes "letters_kept") r.letters_kept)
    (codes "calls_open") r.calls_open)
    (codes "trace_bytes") r.trace_bytes)
    (codes "connections") r.connections)
    (codes "operations") r.operations

-- a text and after it the line with the founders
abbrev pub with_founders : List ℕ → Weights → List ℕ
with_founders text founders = ((text ++ codes "founders ") ++ conf_text founders) ++ 10 ∷ []

-- a text and after it the line with a map: its lowest active place and the configurations from there on
abbrev pub with_map : List ℕ → ℕ → List Weights → List ℕ
with_map text floor confs = (((text ++ codes "map ") ++ decimal floor) ++ more_words (map conf_text confs)) ++ 10 ∷ []

abbrev pub report_text : Report → Weights → ℕ → List Weights → List ℕ
report_text r founders floor confs = with_map (with_founders (with_counts [] r) founders) floor confs

abbrev pub report_reply : Report → Weights → ℕ → List Weights → Reply
report_reply r founders floor confs = reply.Bulk (report_text r founders floor confs)
