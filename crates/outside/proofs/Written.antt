-- Bytes that are written behind others, and fronts of them.
use Rattle.std.proofs.Common.{◌≡◌, ℕ, ◌+◌, List, [], ◌∷◌, ◌++◌, length, take, Option, refl, sym, subst, arith, length-append}
use Rattle.std.proofs.KnownBytes.{Appends-nil, Appends-trans}
use Rattle.std.proofs.Math.Seq.{take-append-add, take-length}
use Rattle.std.specs.Io.KnownBytes.{Appends}
use Rattle.outside.specs.Prefixes.{AppendsPrefix, AppendsUpTo}

pub prefix_behind : (held middle now : Option (List ℕ)) (xs ys : List ℕ) → Appends held middle xs → AppendsPrefix middle now ys
    → AppendsPrefix held now (xs ++ ys)
prefix_behind held middle now xs ys before h =
    let below = h.below in record {
      count = length xs + h.count;
      below = omega (arith, below, length-append xs ys);
      appended = subst (Appends held now) (sym (take-append-add xs ys h.count))
          (Appends-trans held middle now xs (take h.count ys) before h.appended);
    }

pub up_to_behind : (held middle now : Option (List ℕ)) (xs ys : List ℕ) → Appends held middle xs → AppendsUpTo middle now ys
    → AppendsUpTo held now (xs ++ ys)
up_to_behind held middle now xs ys before h = record {
  count = length xs + h.count;
  appended = subst (Appends held now) (sym (take-append-add xs ys h.count))
      (Appends-trans held middle now xs (take h.count ys) before h.appended);
}

-- a text is a front of itself
pub all_of : (text : List ℕ) (before now : Option (List ℕ)) → Appends before now text → AppendsUpTo before now text
all_of text before now wrote =
    record { count = length text; appended = subst (Appends before now) (sym (take-length text)) wrote }

-- before a line is written, none of its bytes are
pub no_line : (h : Option (List ℕ)) (line : List ℕ) → AppendsPrefix h h (line ++ 10 ∷ [])
no_line h line = record { count = 0; below = omega (arith, length-append line (10 ∷ [])); appended = Appends-nil h }
