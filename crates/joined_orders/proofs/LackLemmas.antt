-- Where a part has no order, in whichever words its lines are told.
use Rattle.std.proofs.Common.{◌≡◌, ℕ, ◌≤◌, Bool, List, [], ◌∷◌, length, refl, sym, ap, subst, ◌∙◌, arith, inl}
use Rattle.std.specs.Borrow.{Bor}
use Rattle.std.specs.Prelude.{filter}
use Rattle.std.proofs.lemmas.List.{length-map}
use Rattle.std.proofs.lemmas.Option.{slice_get_within}
use Rattle.std.proofs.lemmas.Slice.Eq.{bytes_eq-Decides}
use Rattle.execution_laws.specs.Legality.{SubmittedOnce}
use Rattle.fronts.specs.Fronts.{AcceptedLater, HasOrder}
use Rattle.fronts.specs.Parts.{is_of, AreOwn, HasParts}
use Rattle.joined_orders.proofs.Mapped.{mapped_at}
use Rattle.joined_orders.proofs.Owned.{owns}
use Rattle.joined_orders.specs.Answers.{LacksOrder}
use Rattle.joined_orders.specs.Owning.{is_own, passes}
use Rattle.joined_orders.specs.Splitting.{part_names, AreSplit}
use Rattle.joined_orders.specs.declared.part.Part.{Part}
use Rattle.lemmas.proofs.Members.{Has-rest}
use Rattle.nop_types.specs.Lines.{Line, Submit}
use Rattle.nop_types.specs.Lists.{Has}
use Rattle.nop_types.specs.Meaning.{Meaning}
use Rattle.pairs.proofs.SaidLemmas.{length_said}
use Rattle.pairs.specs.Said.{said_by}
use Rattle.transcript_reader.specs.Claims.{line_of}
use Rattle.transcript_reader.specs.declared.claim.Claim.{Claim}
use Rattle.transcript_reader.specs.declared.claim.Claim.TheVariants.{Submitted, Accepted}

filter_agrees : {A : Type 0} (p q : A → Bool) (xs : List A) → ((x : A) → Has xs x → p x ≡ q x) → filter p xs ≡ filter q xs
filter_agrees p q [] same = refl
filter_agrees p q (x ∷ xs) same =
    let e = same x (0, refl) in rw (e, filter_agrees p q xs (λ y h. same y (Has-rest y x xs h))) refl

module _ (lines : List Line) (mine : List ℕ → Bool) (own other : Line → Bool) (are : AreOwn lines mine own) (are_too : AreOwn lines mine other)
    (later : AcceptedLater lines) where
  alike_at : (claim : Claim) → Has lines (line_of claim) → own (line_of claim) ≡ other (line_of claim)
  alike_at (Submitted request) h = are.submits request ∙ sym (are_too.submits request)
  alike_at (Accepted client id result) h =
      let s = later h.0 client id result h.1 in
      are.accepts client id result s.request (s.place, s.line) s.same
      ∙ sym (are_too.accepts client id result s.request (s.place, s.line) s.same)

-- the lines of a part are the same however they are told
pub same_lines : (claims : List (Bor Claim)) (mine : List ℕ → Bool) (own other : Line → Bool) → AreOwn (said_by claims) mine own
    → AreOwn (said_by claims) mine other → AcceptedLater (said_by claims) → filter own (said_by claims) ≡ filter other (said_by claims)
same_lines claims mine own other are are_too later =
    filter_agrees own other (said_by claims) (λ line h.
    let f = mapped_at (λ (claim : Bor Claim). line_of claim.now) claims h.0 line h.1 in
    let at : Has (said_by claims) (line_of f.from.now) = subst (λ (t : Line). Has (said_by claims) t) (sym f.gives) h in
    ap own (sym f.gives) ∙ alike_at (said_by claims) mine own other are are_too later f.from.now at ∙ ap other f.gives)

module _ (claims : List (Bor Claim)) (part : List ℕ → List ℕ) (once : SubmittedOnce (said_by claims)) where
  pub lacks_however : {S : Type 0} (m : Meaning S) (most : ℕ) (p : List ℕ) → AcceptedLater (said_by claims)
      → (HasOrder m (filter (is_own part (said_by claims) p) (said_by claims)) → ⊥) → LacksOrder m part most (said_by claims) p
  lacks_however m most p later none =
      inl (λ own are h.
      none (subst (λ (t : List Line). HasOrder m t)
      (same_lines claims (is_of part p) own (is_own part (said_by claims) p) are (owns part (said_by claims) p once) later) h))

  -- all that is submitted is of the parts
  pub has_parts : (most : ℕ) (parts : List Part) → AreSplit part (said_by claims) (length claims) parts → length parts ≤ most
      → HasParts part most (said_by claims) (part_names parts)
  has_parts most parts split few = record {
    few = let e = length-map parts (λ (t : Part). t.name.now) in omega (arith, few, e);
    distinct = split.distinct;
    all = λ r h.
        let l = slice_get_within (said_by claims) h.0 (Submit r) h.1 in
        let e = length_said claims in
        split.known h.0 (part r.op) (omega (arith, l, e))
        (ap (λ t. passes (is_own part (said_by claims) (part r.op)) t) h.1 ∙ (bytes_eq-Decides (part r.op) (part r.op)).1 refl);
  }
