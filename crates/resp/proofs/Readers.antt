-- What is read from the front of bytes, step by step: laws of any reader.
use Rattle.std.proofs.Common.{◌≡◌, ℕ, ◌<◌, List, [], ◌∷◌, ◌++◌, length, Ok, Err, refl, sym, ap, subst, ◌∙◌, arith, append_assoc}
use Rattle.std.specs.Prelude.{⊤}
use Rattle.std.proofs.lemmas.List.{length-append}
use Rattle.resp.specs.declared.parsed.Stop.TheVariants.{More, Wrong}
use Rattle.resp.specs.Reading.{Read, ◌>>=◌}

-- the bytes begin with a spelling of the value
pub record Begun {A : Type 0} (S : A → List ℕ → Type 0) (bytes : List ℕ) (value : A) (rest : List ℕ) : Type 0 where
  pub spelling : List ℕ
  pub spells : S value spelling
  pub is : bytes ≡ spelling ++ rest

-- the bytes are a spelling but for some at its end
pub record Front {A : Type 0} (S : A → List ℕ → Type 0) (bytes : List ℕ) : Type 0 where
  pub value : A
  pub spelling : List ℕ
  pub missing : List ℕ
  pub spells : S value spelling
  pub some : 0 < length missing
  pub is : bytes ++ missing ≡ spelling

-- what was read, or that more is to come, is true of the bytes
abbrev pub IsTrueOf : {A : Type 0} → (A → List ℕ → Type 0) → List ℕ → Read A → Type 0
IsTrueOf S bytes (Ok p) = Begun S bytes p.0 p.1
IsTrueOf S bytes (Err More) = Front S bytes
IsTrueOf S bytes (Err (Wrong fault)) = ⊤

pub then_true : {A B : Type 0} (S : A → List ℕ → Type 0) (T : B → List ℕ → Type 0) (bytes : List ℕ) (x : Read A)
    (f : A × List ℕ → Read B) → IsTrueOf S bytes x
    → ((a : A) (rest : List ℕ) → Begun S bytes a rest → IsTrueOf T bytes (f (a, rest)))
    → (Front S bytes → Front T bytes) → IsTrueOf T bytes (x >>= f)
then_true S T bytes (Ok p) f h next front = next p.0 p.1 h
then_true S T bytes (Err More) f h next front = front h
then_true S T bytes (Err (Wrong fault)) f h next front = tt

-- the same of the bytes with others before them
pub true_behind : {A B : Type 0} (S : A → List ℕ → Type 0) (T : B → List ℕ → Type 0) (make : A → B) (bytes first rest : List ℕ)
    → bytes ≡ first ++ rest → ((a : A) (s : List ℕ) → S a s → T (make a) (first ++ s)) → (x : Read A) → IsTrueOf S rest x
    → IsTrueOf T bytes (x >>= λ p. Ok (make p.0, p.1))
true_behind S T make bytes first rest e spell (Ok p) h = record {
  spelling = first ++ h.spelling;
  spells = spell p.0 h.spelling h.spells;
  is = e ∙ ap (λ (l : List ℕ). first ++ l) h.is ∙ sym (append_assoc first h.spelling p.1);
}
true_behind S T make bytes first rest e spell (Err More) h = record {
  value = make h.value;
  spelling = first ++ h.spelling;
  missing = h.missing;
  spells = spell h.value h.spelling h.spells;
  some = h.some;
  is = ap (λ (l : List ℕ). l ++ h.missing) e ∙ append_assoc first rest h.missing ∙ ap (λ (l : List ℕ). first ++ l) h.is;
}
true_behind S T make bytes first rest e spell (Err (Wrong fault)) h = tt

pub true_after : {A : Type 0} (S T : A → List ℕ → Type 0) (bytes first rest : List ℕ)
    → bytes ≡ first ++ rest → ((a : A) (s : List ℕ) → S a s → T a (first ++ s)) → (x : Read A) → IsTrueOf S rest x → IsTrueOf T bytes x
true_after S T bytes first rest e spell (Ok p) h = record {
  spelling = first ++ h.spelling;
  spells = spell p.0 h.spelling h.spells;
  is = e ∙ ap (λ (l : List ℕ). first ++ l) h.is ∙ sym (append_assoc first h.spelling p.1);
}
true_after S T bytes first rest e spell (Err More) h = record {
  value = h.value;
  spelling = first ++ h.spelling;
  missing = h.missing;
  spells = spell h.value h.spelling h.spells;
  some = h.some;
  is = ap (λ (l : List ℕ). l ++ h.missing) e ∙ append_assoc first rest h.missing ∙ ap (λ (l : List ℕ). first ++ l) h.is;
}
true_after S T bytes first rest e spell (Err (Wrong fault)) h = tt

-- a front of one thing is a front of what follows it too
pub front_with : {A B : Type 0} (S : A → List ℕ → Type 0) (T : B → List ℕ → Type 0) (bytes : List ℕ) (f : Front S bytes) (b : B)
    (more : List ℕ) → T b (f.spelling ++ more) → Front T bytes
front_with S T bytes f b more spells = record {
  value = b;
  spelling = f.spelling ++ more;
  missing = f.missing ++ more;
  spells = spells;
  some = let some = f.some in omega (arith, length-append f.missing more);
  is = sym (append_assoc bytes f.missing more) ∙ ap (λ (l : List ℕ). l ++ more) f.is;
}

-- ---- more bytes behind

-- what was read or refused of bytes is so when others follow them
abbrev pub Stays : {A : Type 0} → List ℕ → Read A → Read A → Type 0
Stays more (Ok p) y = y ≡ Ok (p.0, p.1 ++ more)
Stays more (Err More) y = ⊤
Stays more (Err (Wrong fault)) y = y ≡ Err (Wrong fault)

pub then_stays : {A B : Type 0} (more : List ℕ) (x y : Read A) (f g : A × List ℕ → Read B) → Stays more x y
    → ((a : A) (rest : List ℕ) → Stays more (f (a, rest)) (g (a, rest ++ more))) → Stays more (x >>= f) (y >>= g)
then_stays {A} {B} more (Ok p) y f g h next =
    subst (λ (z : Read A). Stays more (f p) (z >>= g)) (sym h) (next p.0 p.1)
then_stays {A} {B} more (Err More) y f g h next = tt
then_stays {A} {B} more (Err (Wrong fault)) y f g h next = ap (λ (z : Read A). z >>= g) h

abbrev rest_in : {A : Type 0} → Read A → List ℕ
rest_in (Ok p) = p.1
rest_in (Err stop) = []

some_behind : (xs ys : List ℕ) → 0 < length ys → xs ++ ys ≡ [] → ⊥
some_behind [] ys l e = omega (arith, ap length e)
some_behind (x ∷ xs) ys l e = cc

-- where a whole is read, no part of it is, and none is refused
pub refused_again : {A : Type 0} (more : List ℕ) (b : A) (x y : Read A) → Stays more x y → 0 < length more → y ≡ Ok (b, [])
    → x ≡ Err More
refused_again {A} more b (Ok p) y h some e = absurd (some_behind p.1 more some (ap rest_in (sym h ∙ e)))
refused_again {A} more b (Err More) y h some e = refl
refused_again {A} more b (Err (Wrong fault)) y h some e = absurd cc
