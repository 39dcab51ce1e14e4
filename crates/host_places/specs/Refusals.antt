-- What the user is told of a list that is refused.
use Rattle.std.specs.Prelude.{ℕ, List, [], ◌∷◌, codes, decimal}
use Rattle.host_list.specs.Reading.{rule_number}
use Rattle.host_list.specs.declared.rule.Refusal.{Refusal}
use Rattle.transcript_text.specs.LineText.{line_of}

-- the first line that breaks a rule, and the rule
unfoldable pub refusal_line : Refusal → List ℕ
refusal_line refusal =
    line_of (codes "error") (codes "line" ∷ decimal refusal.line ∷ codes "rule" ∷ decimal (rule_number refusal.rule) ∷ [])
