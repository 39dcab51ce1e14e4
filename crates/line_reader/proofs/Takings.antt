-- Steps of a reader, one after the other.
use Rattle.std.proofs.Common.{◌≡◌, ◌∙◌, ℕ, false, List, [], ◌++◌, Option, Some, None, Err, refl, sym, ap, append_assoc}
use Rattle.std.proofs.Common.{append-nil, eqb, inl, inr}
use Rattle.std.proofs.KnownBytes.{Consumes-nil, Consumes-trans}
use Rattle.std.proofs.lemmas.Bool.{false≢true, eqb-true}
use Rattle.std.specs.Io.KnownBytes.{Keeps, Consumes, IsAtEnd}
use Rattle.line_reader.specs.Deciding.{IsUndecided}
use Rattle.line_reader.specs.Filling.{Fills, FillsFrom}
use Rattle.line_reader.specs.Reading.{Reading, TakesFrom, IsEnd, NeedsNoRead}
use Rattle.line_reader.specs.Cutting.{lines_of}
use Rattle.line_reader.specs.declared.read_error.ReadError.{ReadError}
use Rattle.line_reader.specs.declared.read_error.ReadError.TheVariants.{ReadFault, NoMemory}

pub stays : (r : Reading) (left : Option (List ℕ)) → TakesFrom r r left left
stays r left = record {
  taken = [];
  source = Consumes-nil left;
  grows = record { most = refl; line = refl; pending = sym (append-nil r.pending); after_end = λ was. (refl, was) };
  end = λ going ended. absurd (false≢true (sym going ∙ ended));
}

ends_from : (before middle left : Option (List ℕ)) (taken : List ℕ) → Consumes before middle taken → IsEnd middle left → IsEnd before left
ends_from None middle left taken c e = tt
ends_from (Some xs) None left taken c e = absurd c
ends_from (Some xs) (Some ys) left taken c e = e

-- a step before the end, and then another one
pub then_takes : (old mid new : Reading) (before middle left : Option (List ℕ)) → mid.ended ≡ false
    → TakesFrom old mid before middle → TakesFrom mid new middle left → TakesFrom old new before left
then_takes old mid new before middle left going first second = record {
  taken = first.taken ++ second.taken;
  source = Consumes-trans before middle left first.taken second.taken first.source second.source;
  grows = record {
    most = second.grows.most ∙ first.grows.most;
    line = second.grows.line ∙ first.grows.line;
    pending = second.grows.pending ∙ ap (λ (xs : List ℕ). xs ++ second.taken) first.grows.pending
        ∙ append_assoc old.pending first.taken second.taken;
    after_end = λ was. absurd (false≢true (sym going ∙ (first.grows.after_end was).1));
  };
  end = λ was ended. ends_from before middle left first.taken first.source (second.end going ended);
}

consumes_none : (before left : Option (List ℕ)) → Keeps before left → Consumes before left []
consumes_none None left k = tt
consumes_none (Some xs) None k = k
consumes_none (Some xs) (Some ys) k = sym k

at_end : (before left : Option (List ℕ)) → IsAtEnd left → IsEnd before left
at_end None left e = tt
at_end (Some xs) left e = e

-- a piece that was read behind the bytes
module _ (r : Reading) (count : ℕ) (pending : List ℕ) (going : r.ended ≡ false) where
  pub filled : (before left : Option (List ℕ)) → Fills before left r.pending pending count
      → TakesFrom r (record r { pending = pending; ended = eqb count 0 }) before left
  filled before left fills = record {
    taken = fills.piece;
    source = fills.taken;
    grows = record { most = refl; line = refl; pending = fills.bytes; after_end = λ was. absurd (false≢true (sym going ∙ was)) };
    end = λ was ended. at_end before left (fills.end (eqb-true count 0 ended));
  }

-- a piece that was not read
unread : (r : Reading) (pending : List ℕ) (going : r.ended ≡ false) (before left : Option (List ℕ)) → pending ≡ r.pending
    → Keeps before left → TakesFrom r (record r { pending = pending }) before left
unread r pending going before left same keeps = record {
  taken = [];
  source = consumes_none before left keeps;
  grows = record { most = refl; line = refl; pending = same ∙ sym (append-nil r.pending); after_end = λ was. (refl, was) };
  end = λ was ended. absurd (false≢true (sym going ∙ ended));
}

pub failed : (r : Reading) (pending : List ℕ) (going : r.ended ≡ false) (before left : Option (List ℕ)) (e : ReadError)
    → FillsFrom before left r.pending pending (Err e) → TakesFrom r (record r { pending = pending }) before left
failed r pending going before left ReadFault fills = unread r pending going before left fills.0 fills.1
failed r pending going before left NoMemory fills = unread r pending going before left fills.0 fills.1

-- where no line is decided before the end of the source, it has to be read
pub needs_a_read : (r : Reading) → IsUndecided r.most r.line r.ended r.pending → r.ended ≡ false → NeedsNoRead r → ⊥
needs_a_read r undecided going (inl was) = false≢true (sym going ∙ was)
needs_a_read r undecided going (inr some) = some (ap (lines_of r.most false r.line) (append-nil r.pending) ∙ undecided.none)
