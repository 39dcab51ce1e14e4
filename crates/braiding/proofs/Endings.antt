-- How the whole ends.
use Rattle.std.proofs.Common.{◌≡◌, ◌∙◌, ℕ, List, Option, ap, inr}
use Rattle.std.specs.Prelude.{Err}
use Rattle.outside.specs.Prefixes.{AppendsPrefix}
use Rattle.outside.specs.declared.errors.DeviceError.{DeviceError}
use Rattle.outside.specs.declared.errors.DeviceError.TheVariants as devices
use Rattle.braiding.specs.Ending.{of_sink, written, Ends, IsOrdered}
use Rattle.braiding.specs.Orders.{texts_of, IsOrder}
use Rattle.braiding.specs.Reading.{AreAll}
use Rattle.braiding.specs.declared.traces.Line.{Line}

pub ordered : (before left : Option (List ℕ)) (lines lent : List Line) (order places text bytes : List ℕ) → AreAll before left (texts_of lines)
    → IsOrder (texts_of lines) order → lent ≡ lines → places ≡ order → text ≡ written (texts_of lent) places → bytes ≡ text → IsOrdered before left bytes
ordered before left lines lent order places text bytes all is a b e f = record {
  lines = texts_of lines;
  all = all;
  order = order;
  is = is;
  text = f ∙ e ∙ ap (λ (ls : List Line). written (texts_of ls) places) a ∙ ap (written (texts_of lines)) b;
}

pub ended_badly : (A : Type 0) (before left held now : Option (List ℕ)) (output : List ℕ) (e : DeviceError) → IsOrdered before left output
    → AppendsPrefix held now output → Ends {A = A} before left held now (Err (of_sink e))
ended_badly A before left held now output devices.Failed o h = (output, o, h)
ended_badly A before left held now output devices.NoMemory o h = inr (output, o, h)
