-- A request: read as it is spelled, and only so.
use Rattle.std.proofs.Common.{◌≡◌, ℕ, zero, suc, ◌-◌, ◌<◌, ◌≤◌, Bool, true, false, cond, List, [], ◌∷◌, ◌++◌, length, take, drop}
use Rattle.std.proofs.Common.{replicate, Result, Ok, Err, refl, sym, ap, subst, ◌∙◌, arith, append_assoc, append-nil}
use Rattle.std.specs.Prelude.{nat_lt}
use Rattle.std.specs.List.{flat_map}
use Rattle.std.proofs.lemmas.Bool.Decides.{nat_tests}
use Rattle.std.proofs.lemmas.List.{length-append, length-take, length-replicate, take-append-drop, take-append-le, drop-append-le}
use Rattle.std.proofs.Math.Seq.{take-append_seam, drop-append_seam}
use Rattle.resp.specs.declared.limits.TheConstants.{MAX_ARGUMENTS, MAX_ARGUMENT_BYTES}
use Rattle.resp.specs.declared.parsed.Fault.TheVariants.{TooMany, TooLong}
use Rattle.resp.specs.declared.parsed.Stop.{Stop}
use Rattle.resp.specs.declared.parsed.Stop.TheVariants.{More, Wrong}
use Rattle.resp.specs.Reading.{Read, ◌>>=◌, read_end, read_line, read_body, read_bulk, read_bulks, read_request}
use Rattle.resp.specs.Spelling.{line_end, line_of, bulk, spelled, AreShort, IsRequest, Begins, AreFront}
use Rattle.resp.proofs.Readers.{Begun, Front, IsTrueOf, Stays, then_true, true_behind, true_after, front_with, then_stays, refused_again}
use Rattle.resp.proofs.Lines.{IsEnd, end_is, EndStays, end_stays, end_again, IsLine, line_is, line_stays, line_again}

-- ---- bytes of a length, and the end of a line

pub record IsBody (len : ℕ) (bytes s : List ℕ) : Type 0 where
  pub size : length bytes ≡ len
  pub is : s ≡ bytes ++ line_end

-- the argument, where the end of its line is read
abbrev with_argument : List ℕ → Result (List ℕ) Stop → Read (List ℕ)
with_argument argument x = x >>= λ rest. Ok (argument, rest)

ended : (len : ℕ) (bytes : List ℕ) → len ≤ length bytes → (x : Result (List ℕ) Stop) → IsEnd (drop len bytes) x
    → IsTrueOf (IsBody len) bytes (with_argument (take len bytes) x)
ended len bytes le (Ok rest) h = record {
  spelling = take len bytes ++ line_end;
  spells = record { size = omega (arith, length-take len bytes); is = refl };
  is = sym (take-append-drop len bytes) ∙ ap (λ (l : List ℕ). take len bytes ++ l) h ∙ sym (append_assoc (take len bytes) line_end rest);
}
ended len bytes le (Err More) h = record {
  value = take len bytes;
  spelling = take len bytes ++ line_end;
  missing = h.missing;
  spells = record { size = omega (arith, length-take len bytes); is = refl };
  some = h.some;
  is = ap (λ (l : List ℕ). l ++ h.missing) (sym (take-append-drop len bytes)) ∙ append_assoc (take len bytes) (drop len bytes) h.missing
      ∙ ap (λ (l : List ℕ). take len bytes ++ l) h.is;
}
ended len bytes le (Err (Wrong fault)) h = tt

body_read : (len : ℕ) (bytes : List ℕ) (b : Bool) → nat_lt (length bytes) len ≡ b
    → IsTrueOf (IsBody len) bytes (cond b (Err More) (with_argument (take len bytes) (read_end (drop len bytes))))
body_read len bytes true e =
    let few : length bytes < len = grind (arith, nat_tests) in
    let rest = replicate (len - length bytes) 0 in
    record {
      value = bytes ++ rest;
      spelling = (bytes ++ rest) ++ line_end;
      missing = rest ++ line_end;
      spells = record { size = omega (arith, length-append bytes rest, length-replicate {A = ℕ} (len - length bytes) 0); is = refl };
      some = omega (arith, length-append rest line_end);
      is = sym (append_assoc bytes rest line_end);
    }
body_read len bytes false e =
    let enough : len ≤ length bytes = grind (arith, nat_tests) in
    ended len bytes enough (read_end (drop len bytes)) (end_is (drop len bytes))

body_is : (len : ℕ) (bytes : List ℕ) → IsTrueOf (IsBody len) bytes (read_body len bytes)
unfolding read_body
body_is len bytes = body_read len bytes _ refl

ended_stays : (more argument : List ℕ) (x y : Result (List ℕ) Stop) → EndStays more x y
    → Stays more (with_argument argument x) (with_argument argument y)
ended_stays more argument (Ok rest) y h = ap (with_argument argument) h
ended_stays more argument (Err More) y h = tt
ended_stays more argument (Err (Wrong fault)) y h = ap (with_argument argument) h

bodies_stay : (len : ℕ) (bytes more : List ℕ) (b : Bool) → nat_lt (length bytes) len ≡ b
    → Stays more (cond b (Err More) (with_argument (take len bytes) (read_end (drop len bytes)))) (read_body len (bytes ++ more))
unfolding read_body
bodies_stay len bytes more true e = tt
bodies_stay len bytes more false e =
    let enough : len ≤ length bytes = grind (arith, nat_tests) in
    let total = length-append bytes more in
    let whole : nat_lt (length (bytes ++ more)) len ≡ false = grind (arith, nat_tests) in
    rw (whole, take-append-le len bytes more enough, drop-append-le len bytes more enough)
    (ended_stays more (take len bytes) (read_end (drop len bytes)) (read_end (drop len bytes ++ more)) (end_stays (drop len bytes) more))

body_stays : (len : ℕ) (bytes more : List ℕ) → Stays more (read_body len bytes) (read_body len (bytes ++ more))
unfolding read_body
body_stays len bytes more = bodies_stay len bytes more _ refl

body_again : (argument rest : List ℕ) → read_body (length argument) (argument ++ (line_end ++ rest)) ≡ Ok (argument, rest)
unfolding read_body
body_again argument rest =
    let total = length-append argument (line_end ++ rest) in
    let whole : nat_lt (length (argument ++ (line_end ++ rest))) (length argument) ≡ false = grind (arith, nat_tests) in
    rw (whole, take-append_seam argument (line_end ++ rest), drop-append_seam argument (line_end ++ rest), end_again rest) refl

-- ---- an argument

pub record IsBulk (argument s : List ℕ) : Type 0 where
  pub short : length argument ≤ MAX_ARGUMENT_BYTES
  pub is : s ≡ bulk argument

-- a line with a length and so many bytes
with_body : (len : ℕ) (argument s : List ℕ) → len ≤ MAX_ARGUMENT_BYTES → IsBody len argument s → IsBulk argument (line_of 36 len ++ s)
unfolding bulk
with_body len argument s le h = record {
  short = let e = h.size in omega arith;
  is = ap (λ (l : List ℕ). line_of 36 len ++ l) h.is ∙ ap (λ (n : ℕ). line_of 36 n ++ (argument ++ line_end)) (sym h.size);
}

front_of_bulk : (bytes : List ℕ) → Front (IsLine 36 MAX_ARGUMENT_BYTES) bytes → Front IsBulk bytes
front_of_bulk bytes f =
    let argument = replicate f.value 0 in
    front_with (IsLine 36 MAX_ARGUMENT_BYTES) IsBulk bytes f argument (argument ++ line_end)
    (subst (λ (l : List ℕ). IsBulk argument (l ++ (argument ++ line_end))) (sym f.spells.is)
    (with_body f.value argument (argument ++ line_end) f.spells.fits (record { size = length-replicate {A = ℕ} f.value 0; is = refl })))

pub bulk_is : (bytes : List ℕ) → IsTrueOf IsBulk bytes (read_bulk bytes)
unfolding read_bulk
bulk_is bytes =
    then_true (IsLine 36 MAX_ARGUMENT_BYTES) IsBulk bytes (read_line 36 MAX_ARGUMENT_BYTES TooLong bytes) (λ l. read_body l.0 l.1)
    (line_is 36 MAX_ARGUMENT_BYTES TooLong bytes (omega arith) (omega arith))
    (λ len rest begun. true_after (IsBody len) IsBulk bytes (line_of 36 len) rest
    (begun.is ∙ ap (λ (l : List ℕ). l ++ rest) begun.spells.is)
    (λ argument s h. with_body len argument s begun.spells.fits h) (read_body len rest) (body_is len rest))
    (front_of_bulk bytes)

pub bulk_stays : (bytes more : List ℕ) → Stays more (read_bulk bytes) (read_bulk (bytes ++ more))
unfolding read_bulk
bulk_stays bytes more =
    then_stays more (read_line 36 MAX_ARGUMENT_BYTES TooLong bytes) (read_line 36 MAX_ARGUMENT_BYTES TooLong (bytes ++ more))
    (λ l. read_body l.0 l.1) (λ l. read_body l.0 l.1) (line_stays 36 MAX_ARGUMENT_BYTES TooLong bytes more)
    (λ len rest. body_stays len rest more)

abbrev with_its_body : Read ℕ → Read (List ℕ)
with_its_body x = x >>= λ len. read_body len.0 len.1

pub bulk_again : (argument rest : List ℕ) → length argument ≤ MAX_ARGUMENT_BYTES → read_bulk (bulk argument ++ rest) ≡ Ok (argument, rest)
unfolding read_bulk bulk
bulk_again argument rest le =
    ap read_bulk
    (append_assoc (line_of 36 (length argument)) (argument ++ line_end) rest
    ∙ ap (λ (l : List ℕ). line_of 36 (length argument) ++ l) (append_assoc argument line_end rest))
    ∙ ap with_its_body (line_again 36 MAX_ARGUMENT_BYTES TooLong (length argument) (argument ++ (line_end ++ rest)) le (omega arith))
    ∙ body_again argument rest

-- ---- so many arguments

pub record AreBulks (count : ℕ) (arguments : List (List ℕ)) (s : List ℕ) : Type 0 where
  pub many : length arguments ≡ count
  pub short : AreShort arguments
  pub is : s ≡ flat_map bulk arguments

one_first : (count : ℕ) (first s : List ℕ) (others : List (List ℕ)) (t : List ℕ) → IsBulk first s → AreBulks count others t
    → AreBulks (suc count) (first ∷ others) (s ++ t)
one_first count first s others t h k = record {
  many = ap suc k.many;
  short = (h.short, k.short);
  is = ap (λ (l : List ℕ). l ++ t) h.is ∙ ap (λ (l : List ℕ). bulk first ++ l) k.is;
}

none : (count : ℕ) → AreShort (replicate count [])
none zero = tt
none (suc count) = (omega arith, none count)

pub empty_ones : (count : ℕ) → AreBulks count (replicate count []) (flat_map bulk (replicate count []))
empty_ones count = record { many = length-replicate {A = List ℕ} count []; short = none count; is = refl }

pub bulks_are : (count : ℕ) (bytes : List ℕ) → IsTrueOf (AreBulks count) bytes (read_bulks count bytes)
unfolding read_bulks
bulks_are zero bytes = record { spelling = []; spells = record { many = refl; short = tt; is = refl }; is = refl }
bulks_are (suc count) bytes =
    then_true IsBulk (AreBulks (suc count)) bytes (read_bulk bytes) _ (bulk_is bytes)
    (λ first rest begun. true_behind (AreBulks count) (AreBulks (suc count)) (λ others. first ∷ others) bytes begun.spelling rest begun.is
    (λ others t h. one_first count first begun.spelling others t begun.spells h) (read_bulks count rest) (bulks_are count rest))
    (λ f. front_with IsBulk (AreBulks (suc count)) bytes f (f.value ∷ replicate count []) (flat_map bulk (replicate count []))
    (one_first count f.value f.spelling (replicate count []) (flat_map bulk (replicate count [])) f.spells (empty_ones count)))

abbrev with_first : List ℕ → Read (List (List ℕ)) → Read (List (List ℕ))
with_first first x = x >>= λ others. Ok (first ∷ others.0, others.1)

with_first_stays : (first : List ℕ) (more : List ℕ) (x y : Read (List (List ℕ))) → Stays more x y
    → Stays more (with_first first x) (with_first first y)
with_first_stays first more (Ok p) y h = ap (with_first first) h
with_first_stays first more (Err More) y h = tt
with_first_stays first more (Err (Wrong fault)) y h = ap (with_first first) h

pub bulks_stay : (count : ℕ) (bytes more : List ℕ) → Stays more (read_bulks count bytes) (read_bulks count (bytes ++ more))
unfolding read_bulks
bulks_stay zero bytes more = refl
bulks_stay (suc count) bytes more =
    then_stays more (read_bulk bytes) (read_bulk (bytes ++ more)) _ _ (bulk_stays bytes more)
    (λ first rest. with_first_stays first more (read_bulks count rest) (read_bulks count (rest ++ more)) (bulks_stay count rest more))

abbrev with_others : ℕ → Read (List ℕ) → Read (List (List ℕ))
with_others count x = x >>= λ first. with_first first.0 (read_bulks count first.1)

pub bulks_again : (arguments : List (List ℕ)) (rest : List ℕ) → AreShort arguments
    → read_bulks (length arguments) (flat_map bulk arguments ++ rest) ≡ Ok (arguments, rest)
unfolding read_bulks
bulks_again [] rest h = refl
bulks_again (first ∷ others) rest h =
    ap (read_bulks (suc (length others))) (append_assoc (bulk first) (flat_map bulk others) rest)
    ∙ ap (with_others (length others)) (bulk_again first (flat_map bulk others ++ rest) h.0)
    ∙ ap (with_first first) (bulks_again others rest h.1)

-- ---- a request

pub record Spells (arguments : List (List ℕ)) (s : List ℕ) : Type 0 where
  pub fits : IsRequest arguments
  pub is : s ≡ spelled arguments

with_arguments : (count : ℕ) (arguments : List (List ℕ)) (s : List ℕ) → count ≤ MAX_ARGUMENTS → AreBulks count arguments s
    → Spells arguments (line_of 42 count ++ s)
unfolding spelled
with_arguments count arguments s le h = record {
  fits = record { few = let e = h.many in omega arith; short = h.short };
  is = ap (λ (l : List ℕ). line_of 42 count ++ l) h.is ∙ ap (λ (n : ℕ). line_of 42 n ++ flat_map bulk arguments) (sym h.many);
}

front_of_request : (bytes : List ℕ) → Front (IsLine 42 MAX_ARGUMENTS) bytes → Front Spells bytes
front_of_request bytes f =
    let arguments = replicate f.value [] in
    front_with (IsLine 42 MAX_ARGUMENTS) Spells bytes f arguments (flat_map bulk arguments)
    (subst (λ (l : List ℕ). Spells arguments (l ++ flat_map bulk arguments)) (sym f.spells.is)
    (with_arguments f.value arguments (flat_map bulk arguments) f.spells.fits (empty_ones f.value)))

pub request_is : (bytes : List ℕ) → IsTrueOf Spells bytes (read_request bytes)
unfolding read_request
request_is bytes =
    then_true (IsLine 42 MAX_ARGUMENTS) Spells bytes (read_line 42 MAX_ARGUMENTS TooMany bytes) (λ c. read_bulks c.0 c.1)
    (line_is 42 MAX_ARGUMENTS TooMany bytes (omega arith) (omega arith))
    (λ count rest begun. true_after (AreBulks count) Spells bytes (line_of 42 count) rest
    (begun.is ∙ ap (λ (l : List ℕ). l ++ rest) begun.spells.is)
    (λ arguments s h. with_arguments count arguments s begun.spells.fits h) (read_bulks count rest) (bulks_are count rest))
    (front_of_request bytes)

pub request_stays : (bytes more : List ℕ) → Stays more (read_request bytes) (read_request (bytes ++ more))
unfolding read_request
request_stays bytes more =
    then_stays more (read_line 42 MAX_ARGUMENTS TooMany bytes) (read_line 42 MAX_ARGUMENTS TooMany (bytes ++ more))
    (λ c. read_bulks c.0 c.1) (λ c. read_bulks c.0 c.1) (line_stays 42 MAX_ARGUMENTS TooMany bytes more)
    (λ count rest. bulks_stay count rest more)

abbrev with_its_bulks : Read ℕ → Read (List (List ℕ))
with_its_bulks x = x >>= λ count. read_bulks count.0 count.1

pub request_again : (arguments : List (List ℕ)) (rest : List ℕ) → IsRequest arguments
    → read_request (spelled arguments ++ rest) ≡ Ok (arguments, rest)
unfolding read_request spelled
request_again arguments rest h =
    ap read_request (append_assoc (line_of 42 (length arguments)) (flat_map bulk arguments) rest)
    ∙ ap with_its_bulks (line_again 42 MAX_ARGUMENTS TooMany (length arguments) (flat_map bulk arguments ++ rest) h.few (omega arith))
    ∙ bulks_again arguments rest h.short

-- ---- what the three answers mean

pub begins_read : (bytes : List ℕ) (arguments : List (List ℕ)) (rest : List ℕ) → Begins bytes arguments rest
    → read_request bytes ≡ Ok (arguments, rest)
begins_read bytes arguments rest h = ap read_request h.is ∙ request_again arguments rest h.fits

begun_by : (bytes : List ℕ) (arguments : List (List ℕ)) (rest : List ℕ) (x : Read (List (List ℕ))) → IsTrueOf Spells bytes x
    → x ≡ Ok (arguments, rest) → Begins bytes arguments rest
begun_by bytes arguments rest x h e = begins (subst (IsTrueOf Spells bytes) e h)
  where
    begins : Begun Spells bytes arguments rest → Begins bytes arguments rest
    begins b = record { fits = b.spells.fits; is = b.is ∙ ap (λ (l : List ℕ). l ++ rest) b.spells.is }

pub read_begins : (bytes : List ℕ) (arguments : List (List ℕ)) (rest : List ℕ) → read_request bytes ≡ Ok (arguments, rest)
    → Begins bytes arguments rest
read_begins bytes arguments rest e = begun_by bytes arguments rest (read_request bytes) (request_is bytes) e

pub read_front : (bytes : List ℕ) → read_request bytes ≡ Err More → AreFront bytes
read_front bytes e = front (subst (IsTrueOf Spells bytes) e (request_is bytes))
  where
    front : Front Spells bytes → AreFront bytes
    front f = record { arguments = f.value; missing = f.missing; fits = f.spells.fits; some = f.some; is = f.is ∙ f.spells.is }

pub front_read : (bytes : List ℕ) → AreFront bytes → read_request bytes ≡ Err More
front_read bytes f =
    refused_again f.missing f.arguments (read_request bytes) (read_request (bytes ++ f.missing)) (request_stays bytes f.missing) f.some
    (ap read_request (f.is ∙ sym (append-nil (spelled f.arguments))) ∙ request_again f.arguments [] f.fits)
