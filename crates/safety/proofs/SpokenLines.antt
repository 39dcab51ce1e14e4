-- Lines of which the whole world does not speak change nothing of what is legal.
use Rattle.std.proofs.Common.{◌≡◌, ◌≤◌, ◌<◌, ℕ, zero, suc, Bool, true, false, cond, Some, refl, ap, ◌∙◌, arith, List, [], ◌∷◌, take, length}
use Rattle.std.specs.Prelude.{slice_get}
use Rattle.nop_types.specs.Legality.{Legal, IsSubmittedBefore}
use Rattle.nop_types.specs.Lines.{Line}
use Rattle.nop_types.specs.Lines as lines
use Rattle.nop_types.specs.Meaning.{Meaning}
use Rattle.nop_types.specs.declared.request.Request.{Request}
use Rattle.lemmas.proofs.Members.{Has-from_filter}
use Rattle.safety.specs.Following.{is_spoken, spoken}

-- how many lines before a place are spoken
abbrev before : List Line → ℕ → ℕ
before ls k = length (spoken (take k ls))

kept_at : (ls : List Line) (k : ℕ) (x : Line) → slice_get ls k ≡ Some x → is_spoken x ≡ true → slice_get (spoken ls) (before ls k) ≡ Some x
kept_at [] k x e s = absurd cc
kept_at (y ∷ ls) zero x e s = let same : y ≡ x = cc in by (is_spoken y) (ap is_spoken same ∙ s) (ap Some same)
  where
    by : (b : Bool) → b ≡ true → Some y ≡ Some x → slice_get (cond b (y ∷ spoken ls) (spoken ls)) 0 ≡ Some x
    by true t is = is
    by false t is = absurd cc
kept_at (y ∷ ls) (suc k) x e s = by (is_spoken y) (kept_at ls k x e s)
  where
    by : (b : Bool) → slice_get (spoken ls) (before ls k) ≡ Some x
        → slice_get (cond b (y ∷ spoken ls) (spoken ls)) (length (cond b (y ∷ spoken (take k ls)) (spoken (take k ls)))) ≡ Some x
    by true rest = rest
    by false rest = rest

-- places keep their order
no_fewer : (ls : List Line) (k l : ℕ) → k ≤ l → before ls k ≤ before ls l
no_fewer [] zero l low = omega arith
no_fewer [] (suc k) zero low = absurd (omega (arith, low))
no_fewer [] (suc k) (suc l) low = omega arith
no_fewer (y ∷ ls) zero l low = omega arith
no_fewer (y ∷ ls) (suc k) zero low = absurd (omega (arith, low))
no_fewer (y ∷ ls) (suc k) (suc l) low = by (is_spoken y) (no_fewer ls k l (omega (arith, low)))
  where
    by : (b : Bool) → before ls k ≤ before ls l
        → length (cond b (y ∷ spoken (take k ls)) (spoken (take k ls))) ≤ length (cond b (y ∷ spoken (take l ls)) (spoken (take l ls)))
    by true rest = omega (arith, rest)
    by false rest = rest

more_before : (ls : List Line) (k l : ℕ) (x : Line) → k < l → slice_get ls k ≡ Some x → is_spoken x ≡ true → before ls k < before ls l
more_before [] k l x low e s = absurd cc
more_before (y ∷ ls) k zero x low e s = absurd (omega (arith, low))
more_before (y ∷ ls) zero (suc l) x low e s = let same : y ≡ x = cc in by (is_spoken y) (ap is_spoken same ∙ s)
  where
    by : (b : Bool) → b ≡ true → 0 < length (cond b (y ∷ spoken (take l ls)) (spoken (take l ls)))
    by true t = omega arith
    by false t = absurd cc
more_before (y ∷ ls) (suc k) (suc l) x low e s = by (is_spoken y) (more_before ls k l x (omega (arith, low)) e s)
  where
    by : (b : Bool) → before ls k < before ls l
        → length (cond b (y ∷ spoken (take k ls)) (spoken (take k ls))) < length (cond b (y ∷ spoken (take l ls)) (spoken (take l ls)))
    by true rest = omega (arith, rest)
    by false rest = rest

-- a spoken line stands among all lines
record Stands (ls : List Line) (j : ℕ) (x : Line) : Type 0 where
  place : ℕ
  there : slice_get ls place ≡ Some x
  count : before ls place ≡ j

found_at : (ls : List Line) (j : ℕ) (x : Line) → slice_get (spoken ls) j ≡ Some x → Stands ls j x
found_at [] j x e = absurd cc
found_at (y ∷ ls) j x e = by (is_spoken y) refl (λ i g. found_at ls i x g) j e
  where
    by : (b : Bool) → is_spoken y ≡ b → ((i : ℕ) → slice_get (spoken ls) i ≡ Some x → Stands ls i x)
        → (i : ℕ) → slice_get (cond b (y ∷ spoken ls) (spoken ls)) i ≡ Some x → Stands (y ∷ ls) i x
    by true is others zero g = record { place = zero; there = g; count = refl }
    by true is others (suc i) g = let rest = others i g in record {
      place = suc rest.place;
      there = rest.there;
      count = ap (λ (b : Bool). length (cond b (y ∷ spoken (take rest.place ls)) (spoken (take rest.place ls)))) is ∙ ap suc rest.count;
    }
    by false is others i g = let rest = others i g in record {
      place = suc rest.place;
      there = rest.there;
      count = ap (λ (b : Bool). length (cond b (y ∷ spoken (take rest.place ls)) (spoken (take rest.place ls)))) is ∙ rest.count;
    }

-- what is legal for the spoken lines is legal for all of them
pub legal_with_all : {S : Type 0} (m : Meaning S) (ls : List Line) (history : List Request) → Legal m (spoken ls) history → Legal m ls history
legal_with_all m ls history h = record {
  apart = h.apart;
  submitted = λ r i. (Has-from_filter is_spoken (lines.Submit r) ls (h.submitted r i)).0;
  later = λ k client id result e. by k (h.later (before ls k) client id result (kept_at ls k _ e refl));
  once = λ k l client id a b e g.
      same k l (lines.Accept client id a) (lines.Accept client id b) e g refl refl
      (h.once (before ls k) (before ls l) client id a b (kept_at ls k _ e refl) (kept_at ls l _ g refl));
  answered = λ k client id result e. h.answered (before ls k) client id result (kept_at ls k _ e refl);
  ordered = λ k l client id result p low e g.
      h.ordered (before ls k) (before ls l) client id result p (more_before ls k l _ low e refl) (kept_at ls k _ e refl) (kept_at ls l _ g refl);
}
  where
    by : (k : ℕ) {client id : ℕ} → IsSubmittedBefore (spoken ls) (before ls k) client id → IsSubmittedBefore ls k client id
    by k s =
        let x = found_at ls s.place (lines.Submit s.request) s.line in
        record {
          place = x.place;
          before = earlier x.place k (omega (arith, x.count, s.before)) (no_fewer ls k x.place);
          request = s.request;
          line = x.there;
          same = s.same;
        }
      where
        earlier : (i k : ℕ) → before ls i < before ls k → (k ≤ i → before ls k ≤ before ls i) → i < k
        earlier i k low none = grind (arith, low, none)

    same : (k l : ℕ) (x y : Line) → slice_get ls k ≡ Some x → slice_get ls l ≡ Some y → is_spoken x ≡ true → is_spoken y ≡ true
        → before ls k ≡ before ls l → k ≡ l
    same k l x y e g s t is =
        grind (arith, is, λ (low : k < l). more_before ls k l x low e s, λ (low : l < k). more_before ls l k y low g t)
