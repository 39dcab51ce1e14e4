-- What a call that reads a line may answer, where NoMemory decides nothing.
use Rattle.std.specs.Prelude.{◌≡◌, Result, Ok, Err, ⊤}
use Rattle.schedule_text.specs.declared.line_error.LineError.{LineError}
use Rattle.schedule_text.specs.declared.line_error.LineError.TheVariants.{Breaks, NoMemory}
use Rattle.schedule_text.specs.declared.rule.Rule.{Rule}

abbrev pub IsAnswer : {A : Type 0} → Result A LineError → Result A Rule → Type 0
IsAnswer (Ok x) r = r ≡ Ok x
IsAnswer (Err (Breaks rule)) r = r ≡ Err rule
IsAnswer (Err NoMemory) r = ⊤
