-- Bytes that are written behind others.
use Rattle.std.proofs.Common.{◌≡◌, ◌∙◌, ℕ, zero, suc, ◌+◌, ◌≤◌, List, [], ◌∷◌, ◌++◌, length, take, Option, refl, sym, ap, subst, arith}
use Rattle.std.proofs.Common.{length-append}
use Rattle.std.specs.Io.KnownBytes.{Appends}
use Rattle.std.proofs.KnownBytes.{Appends-trans}
use Rattle.lemmas.proofs.Places.{take-append_past}
use Rattle.std.specs.Prelude.{Err}
use Rattle.line_reader.specs.Cutting.{Cut}
use Rattle.outside.specs.Prefixes.{AppendsPrefix, AppendsUpTo}
use Rattle.outside.specs.declared.errors.DeviceError.{DeviceError}
use Rattle.outside.specs.declared.errors.DeviceError.TheVariants as devices
use Rattle.service_words.specs.Errors.{of_sink}
use Rattle.service_words.specs.Translating.{Puts, written_line}

pub prefix_behind : (held middle now : Option (List ℕ)) (xs ys : List ℕ) → Appends held middle xs → AppendsPrefix middle now ys
    → AppendsPrefix held now (xs ++ ys)
prefix_behind held middle now xs ys before h =
    let l = h.below in record {
      count = length xs + h.count;
      below = omega (arith, l, length-append xs ys);
      appended = subst (Appends held now) (sym (take-append_past xs ys h.count))
          (Appends-trans held middle now xs (take h.count ys) before h.appended);
    }

pub up_to_behind : (held middle now : Option (List ℕ)) (xs ys : List ℕ) → Appends held middle xs → AppendsUpTo middle now ys
    → AppendsUpTo held now (xs ++ ys)
up_to_behind held middle now xs ys before h = record {
  count = length xs + h.count;
  appended = subst (Appends held now) (sym (take-append_past xs ys h.count))
      (Appends-trans held middle now xs (take h.count ys) before h.appended);
}

-- a line of which a part was written
pub put_failed : (f : List ℕ → List ℕ) (held now : Option (List ℕ)) (before : ℕ) (cut : Cut) (e : DeviceError)
    → AppendsPrefix held now (written_line f cut) → Puts f {A = Unit {0}} held now before cut (Err (of_sink e))
put_failed f held now before cut devices.Failed h = h
put_failed f held now before cut devices.NoMemory h = record { count = h.count; appended = h.appended }
