-- What words ask of a watch.
use Rattle.std.specs.Prelude.{ℕ, ◌-◌, ◌^◌, List, [], ◌∷◌, Bool, true, false, Option, Some, None, codes, ◌==◌, if◌then◌else◌}
use Rattle.line_fields.specs.Fields.{is_text, number_of}
use Rattle.watching.specs.declared.asked.Asked.{Asked}

abbrev pub not_none : Option ℕ → Option ℕ
not_none None = None
not_none (Some n) = if n == 0 then None else Some n

abbrev pub from_one : List ℕ → Option ℕ
from_one word = not_none (number_of word)

-- none, or `--turns` and a number
abbrev pub turns_of : List (List ℕ) → Option ℕ
turns_of [] = Some (2 ^ 64 - 1)
turns_of (option ∷ n ∷ []) = if is_text (codes "--turns") option then from_one n else None
turns_of words = None

abbrev pub asked_with : (once redraws : Bool) → Option ℕ → Option Asked
asked_with once redraws None = None
asked_with once redraws (Some turns) = Some (record { once = once; redraws = redraws; turns = turns })

abbrev pub with_turns : (once redraws : Bool) → List (List ℕ) → Option Asked
with_turns once redraws words = asked_with once redraws (turns_of words)

-- `--once` or `--redraw` comes first
abbrev pub asked_of : List (List ℕ) → Option Asked
asked_of [] = with_turns false false []
asked_of (option ∷ words) =
    if is_text (codes "--once") option then with_turns true false words
    else if is_text (codes "--redraw") option then with_turns false true words
    else with_turns false false (option ∷ words)
