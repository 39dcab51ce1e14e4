-- The outputs that are missing.
use Rattle.std.proofs.Common.{◌≡◌, ◌∙◌, ◌≤◌, ℕ, zero, suc, ◌+◌, Bool, true, false, leb, List, [], ◌∷◌, drop, length, Option, Some, None, refl, sym, ap}
use Rattle.std.proofs.Common.{arith, inl, inr, subst}
use Rattle.std.specs.Prelude.{Ok, Err, IfSome, IsTrue, MatchOption, ◌&&◌, if◌then◌else◌, slice_get}
use Rattle.std.specs.List.{list_all}
use Rattle.std.proofs.lemmas.Bool.{and_parts, cases_lt, leb-false, leb-true}
use Rattle.lemmas.proofs.Places.{Splits-at, slice_get-some}
use Rattle.nop_types.specs.Lines.{Line, Dead, Submit, Accept, Busy, Read, Answer, Send}
use Rattle.nop_types.specs.declared.output.Actor.{Actor}
use Rattle.nop_types.specs.declared.output.Actor.TheVariants.{Client}
use Rattle.nop_types.specs.declared.output.Dest.{Dest}
use Rattle.nop_types.specs.declared.output.Out.{Out}
use Rattle.nop_types.specs.declared.output.Out.TheVariants as outs
use Rattle.nop_types.specs.declared.request.Request.{Request}
use Rattle.network.specs.Network.{did_of, lines_by, lines_from}
use Rattle.trace_rows.specs.declared.row.Gave.{Gave}
use Rattle.trace_rows.specs.declared.row.Gave.TheVariants as gaves
use Rattle.world.specs.Untrimmed.{has_line}
use Rattle.audit_laws.specs.Audits.{SoFar, gives, is_none, says}
use Rattle.audit_laws.specs.Names.{same_actor}
use Rattle.audit_laws.specs.declared.fault.Fault.TheVariants.{Unlike}
use Rattle.audit.specs.Steps.{AreFrom, AreMissing, AreOf, ComesNext, NoneComes}
use Rattle.audit.specs.Telling.{teller, tells}
use Rattle.audit.specs.declared.missing.Missing.{Missing}

-- ---- the first line of some outputs

false_and : (b : Bool) → false ≡ (b && false)
false_and true = refl
false_and false = refl

send_said : (a : Actor) (gave : Gave) (from : Actor) (k : ℕ) (dest : Dest) (bytes : List ℕ)
    → says a gave (Send k from dest bytes) ≡ (same_actor a from && tells gave (outs.Send dest bytes))
send_said a (gaves.Send to datagram) from k dest bytes = refl
send_said a _ from k dest bytes = false_and (same_actor a from)

submit_said : (a : Actor) (gave : Gave) (r : Request) → says a gave (Submit r) ≡ (same_actor a (Client r.client) && tells gave (outs.Submitted r))
submit_said a (gaves.Submit id op) r = refl
submit_said a _ r = false_and (same_actor a (Client r.client))

accept_said : (a : Actor) (gave : Gave) (client id : ℕ) (result : List ℕ)
    → says a gave (Accept client id result) ≡ (same_actor a (Client client) && tells gave (outs.Accepted client id result))
accept_said a (gaves.Accept other given) client id result = refl
accept_said a _ client id result = false_and (same_actor a (Client client))

read_said : (a : Actor) (gave : Gave) (client id observer : ℕ) (key : List ℕ)
    → says a gave (Read client id observer key) ≡ (same_actor a (Client client) && tells gave (outs.Reading client id observer key))
read_said a (gaves.Read other number asked) client id observer key = refl
read_said a _ client id observer key = false_and (same_actor a (Client client))

answer_said : (a : Actor) (gave : Gave) (client id observer position : ℕ) (result : List ℕ)
    → says a gave (Answer client id observer position result)
    ≡ (same_actor a (Client client) && tells gave (outs.Answered client id observer position result))
answer_said a (gaves.Answer other number at given) client id observer position result = refl
answer_said a _ client id observer position result = false_and (same_actor a (Client client))

busy_said : (a : Actor) (gave : Gave) (from : Actor) (client : ℕ) → says a gave (Busy client) ≡ (same_actor a from && tells gave (outs.Busy client))
busy_said a (gaves.Send to datagram) from client = false_and (same_actor a from)
busy_said a _ from client = false_and (same_actor a from)

-- an output with a line has the first one
record FirstIs (from : Actor) (k : ℕ) (o : Out) (rest : List Out) : Type 0 where
  line : Line
  index : ℕ
  are : lines_from from k (o ∷ rest) ≡ line ∷ lines_from from index rest
  said : (a : Actor) (gave : Gave) → says a gave line ≡ (same_actor a (teller from o) && tells gave o)

first_is : (from : Actor) (k : ℕ) (o : Out) (rest : List Out) → has_line o ≡ true → FirstIs from k o rest
first_is from k (outs.Send dest bytes) rest has =
    record { line = Send k from dest bytes; index = k + 1; are = refl; said = λ a gave. send_said a gave from k dest bytes }
first_is from k (outs.Submitted r) rest has = record { line = Submit r; index = k; are = refl; said = λ a gave. submit_said a gave r }
first_is from k (outs.Accepted client id result) rest has =
    record { line = Accept client id result; index = k; are = refl; said = λ a gave. accept_said a gave client id result }
first_is from k (outs.Busy client) rest has =
    record { line = Busy client; index = k; are = refl; said = λ a gave. busy_said a gave from client }
first_is from k (outs.Reading client id observer key) rest has =
    record { line = Read client id observer key; index = k; are = refl; said = λ a gave. read_said a gave client id observer key }
first_is from k (outs.Answered client id observer position result) rest has = record {
  line = Answer client id observer position result;
  index = k;
  are = refl;
  said = λ a gave. answer_said a gave client id observer position result;
}
first_is from k (outs.Trimmed first entries) rest has = absurd cc

has_at : (os : List Out) (i : ℕ) (o : Out) → list_all has_line os ≡ true → slice_get os i ≡ Some o → has_line o ≡ true
has_at [] i o all e = absurd cc
has_at (x ∷ os) zero o all e =
    let same : x ≡ o = cc in ap has_line (sym same) ∙ (and_parts (has_line x) (list_all has_line os) all).0
has_at (x ∷ os) (suc i) o all e = has_at os i o (and_parts (has_line x) (list_all has_line os) all).1 e

none_left : (os : List Out) (i : ℕ) → length os ≤ i → drop i os ≡ []
none_left [] zero l = refl
none_left [] (suc i) l = refl
none_left (o ∷ os) zero l = absurd (omega (arith, l))
none_left (o ∷ os) (suc i) l = none_left os i (omega (arith, l))

-- ---- whether something is missing

pub all_came : (a : Actor) (os : List Out) (came : ℕ) (ls : List Line) → AreFrom a os came ls → length os ≤ came → is_none ls ≡ true
all_came a os came ls are l = ap is_none (are.are ∙ ap (lines_from a are.index) (none_left os came l))

pub some_left : (a : Actor) (os : List Out) (came : ℕ) (ls : List Line) (o : Out) → AreFrom a os came ls → slice_get os came ≡ Some o
    → is_none ls ≡ false
some_left a os came ls o are at =
    let f = first_is a are.index o (drop (suc came) os) (has_at os came o are.have_lines at) in
    ap is_none (are.are ∙ ap (lines_from a are.index) (Splits-at os came o at).back ∙ f.are)

-- ---- the next one

pub comes_next : (a : Actor) (m : Missing) (os : List Out) (out : Out) (ls : List Line) → m.gave ≡ Some os → slice_get os m.came ≡ Some out
    → AreFrom a os m.came ls → ComesNext a m out ls
comes_next a m os out ls gave at are =
    let next : suc m.came ≡ m.came + 1 = omega arith in
    record {
      outs = os;
      gave = gave;
      index = are.index;
      are = are.are ∙ ap (lines_from a are.index) ((Splits-at os m.came out at).back ∙ ap (λ (k : ℕ). out ∷ drop k os) next);
      has = has_at os m.came out are.have_lines at;
      have_lines = are.have_lines;
    }

pub none_comes : (a : Actor) (os : List Out) (came : ℕ) (ls : List Line) → length os ≤ came → AreFrom a os came ls → NoneComes a ls
none_comes a os came ls l are =
    inl (are.are ∙ ap (lines_from a are.index) (none_left os came l))

-- ---- what calls answer

pub all_missing : (gave : Option (List Out)) → IfSome gave (λ os. IsTrue (list_all has_line os)) → (a : Actor) (count : ℕ)
    → AreOf a gave 0 (lines_by a count (did_of gave))
all_missing None have a count = refl
all_missing (Some os) have a count = record { index = count; are = refl; have_lines = have }

pub none_if : (a : Actor) (os : List Out) (came : ℕ) (ls : List Line) (b : Bool) → leb (length os) came ≡ b → AreFrom a os came ls
    → b ≡ is_none ls
none_if a os came ls true test are = sym (all_came a os came ls are (leb-true (length os) came test))
none_if a os came ls false test are =
    let at = slice_get-some os came (leb-false (length os) came test) in sym (some_left a os came ls at.0 are at.1)

pub of_some : (a : Actor) (o : Option (List Out)) (os : List Out) (came : ℕ) (ls : List Line) → o ≡ Some os → AreOf a o came ls
    → AreFrom a os came ls
of_some a None os came ls e are = absurd cc
of_some a (Some ps) os came ls e are = let same : ps ≡ os = cc in subst (λ (qs : List Out). AreFrom a qs came ls) same are

past_all : (os : List Out) (came : ℕ) → slice_get os came ≡ None → length os ≤ came
past_all os came none = elim (cases_lt came (length os)) [
  | inl less ↦ let at = slice_get-some os came less in let no : Some at.0 ≡ None = sym at.1 ∙ none in absurd cc
  | inr more ↦ more
]

pub next_is : (m : Missing) (os : List Out) (o : Option Out) → m.gave ≡ Some os → slice_get os m.came ≡ o
    → MatchOption o ((a : Actor) (ls : List Line) → AreMissing a m ls → NoneComes a ls)
    (λ out. (a : Actor) (ls : List Line) → AreMissing a m ls → ComesNext a m out ls)
next_is m os None gave at = λ a ls are. none_comes a os m.came ls (past_all os m.came at) (of_some a m.gave os m.came ls gave are)
next_is m os (Some out) gave at = λ a ls are. comes_next a m os out ls gave at (of_some a m.gave os m.came ls gave are)

-- ---- what an output does

dead_unsaid : (a b : Actor) (gave : Gave) → says a gave (Dead b) ≡ false
dead_unsaid a b (gaves.Send to datagram) = refl
dead_unsaid a b _ = refl

pub none_gives : (s : SoFar) (a b : Actor) (gave : Gave) (ls : List Line) → NoneComes b ls → gives s (Some a) gave ls ≡ Err Unlike
none_gives s a b gave ls (inl none) = ap (gives s (Some a) gave) none
none_gives s a b gave ls (inr dead) =
    ap (gives s (Some a) gave) dead
    ∙ ap (λ (t : Bool). if t then Ok (record s { missing = [] }) else Err Unlike)
    (ap (λ (t : Bool). same_actor a s.actor && t) (dead_unsaid a b gave) ∙ sym (false_and (same_actor a s.actor)))

-- the next output is the one that comes, or another one
pub record Given (s : SoFar) (a : Actor) (gave : Gave) (m : Missing) (out : Out) : Type 0 where
  pub rest : List Line
  pub are : (n : Missing) → n.gave ≡ m.gave → n.came ≡ m.came + 1 → AreMissing s.actor n rest
  pub is : gives s (Some a) gave s.missing
      ≡ (if same_actor a s.actor && (same_actor a (teller s.actor out) && tells gave out) then Ok (record s { missing = rest }) else Err Unlike)

are_next : (a : Actor) (os : List Out) (k came : ℕ) (o : Option (List Out)) → o ≡ Some os → list_all has_line os ≡ true
    → AreOf a o came (lines_from a k (drop came os))
are_next a os k came None e all = absurd cc
are_next a os k came (Some ps) e all =
    let same : ps ≡ os = cc in
    record { index = k; are = ap (λ (xs : List Out). lines_from a k (drop came xs)) (sym same); have_lines = ap (list_all has_line) same ∙ all }

pub given : (s : SoFar) (a : Actor) (gave : Gave) (m : Missing) (out : Out) → ComesNext s.actor m out s.missing → Given s a gave m out
given s a gave m out next =
    let others = drop (m.came + 1) next.outs in
    let f = first_is s.actor next.index out others next.has in
    record {
      rest = lines_from s.actor f.index others;
      are = λ n same_gave came. subst (λ (c : ℕ). AreOf s.actor n.gave n.came (lines_from s.actor f.index (drop c next.outs))) came
          (are_next s.actor next.outs f.index n.came n.gave (same_gave ∙ next.gave) next.have_lines);
      is = ap (gives s (Some a) gave) (next.are ∙ f.are)
          ∙ ap (λ (t : Bool). if same_actor a s.actor && t then Ok (record s { missing = lines_from s.actor f.index others }) else Err Unlike)
          (f.said a gave);
    }
