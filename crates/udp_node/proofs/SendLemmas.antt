-- Sends one after another.
use Rattle.std.proofs.Common.{◌≡◌, ℕ, zero, suc, ◌+◌, ◌-◌, ◌≤◌, ◌<◌, min, List, [], ◌∷◌, ◌++◌, Bool, true, false, Option, Some, None}
use Rattle.std.proofs.Common.{Result, Ok, Err, refl, ap, sym, ◌∙◌, append_assoc, append-nil, arith}
use Rattle.nop_types.specs.declared.memory.NoMemory.{NoMemory}
use Rattle.outside.specs.Causes.{next_count}
use Rattle.outside.specs.Links.{TracesPoll}
use Rattle.outside.specs.Observed.{Stays, StaysIfObserved, Adds}
use Rattle.outside.specs.declared.errors.DeviceError.{DeviceError}
use Rattle.outside.specs.declared.errors.DeviceError.TheVariants as links
use Rattle.outside.specs.declared.link.Link as devices
use Rattle.outside.specs.declared.link.LinkCall.{LinkCall}
use Rattle.outside.specs.declared.link.LinkCall.TheVariants.{Polled, Sent}
use Rattle.udp_node.specs.Ports.{is_skipped, unless, datagrams_from}
use Rattle.udp_node.specs.Sends.{LinkSide, Grows, Try, Made, Lost, Found, tried, made, found, losses_after, last_count}
use Rattle.udp_node.specs.Sends.{Sends, SendsPrefix, SendsAll, PollsLink, Unpolled}

pub tried_append : (xs ys : List Try) → tried (xs ++ ys) ≡ tried xs ++ tried ys
tried_append [] ys = refl
tried_append (Made c ∷ xs) ys = ap (λ cs. c ∷ cs) (tried_append xs ys)
tried_append (Lost port bytes ∷ xs) ys = ap (λ cs. Sent port bytes ∷ cs) (tried_append xs ys)
tried_append (Found k ∷ xs) ys = tried_append xs ys

pub made_append : (xs ys : List Try) → made (xs ++ ys) ≡ made xs ++ made ys
made_append [] ys = refl
made_append (Made c ∷ xs) ys = ap (λ cs. c ∷ cs) (made_append xs ys)
made_append (Lost port bytes ∷ xs) ys = made_append xs ys
made_append (Found k ∷ xs) ys = made_append xs ys

pub found_append : (xs ys : List Try) → found (xs ++ ys) ≡ found xs + found ys
found_append [] ys = omega arith
found_append (Made c ∷ xs) ys = found_append xs ys
found_append (Lost port bytes ∷ xs) ys = found_append xs ys
found_append (Found k ∷ xs) ys = let rest = found_append xs ys in omega arith

pub Grows_trans : {A : Type 0} (a b c : Option (List A)) (xs ys : List A) → Grows a b xs → Grows b c ys → Grows a c (xs ++ ys)
Grows_trans None b c xs ys one two = tt
Grows_trans (Some old) b c xs ys one two =
    let next : Grows (Some (old ++ xs)) c ys = rw one at two in
    rw (← append_assoc) next

pub Stays_trans : {A : Type 0} (a b c : Option A) → Stays a b → Stays b c → Stays a c
Stays_trans None b c one two = tt
Stays_trans (Some x) b c one two = rw one at two

pub unpolled_then : {L : Type 0} (link : devices.Ghosts L) (x y z : L) → Unpolled link x y → Unpolled link y z → Unpolled link x z
unpolled_then link x y z one two = record { answers = Stays_trans _ _ _ one.answers two.answers; faults = two.faults ∙ one.faults }

pub counted_append : (n : ℕ) (xs ys : List Try) → losses_after n (xs ++ ys) ≡ losses_after (losses_after n xs) ys
counted_append n [] ys = refl
counted_append n (Made c ∷ xs) ys = counted_append n xs ys
counted_append n (Lost port bytes ∷ xs) ys = counted_append (next_count n) xs ys
counted_append n (Found k ∷ xs) ys = counted_append (min (n + k) last_count) xs ys

found_none : (a b : Option (List LinkCall)) (xs ys : List Try) → Grows a b (made xs) → StaysIfObserved a 0 (found xs)
    → StaysIfObserved b 0 (found ys) → StaysIfObserved a 0 (found (xs ++ ys))
found_none None b xs ys grows one two = tt
found_none (Some old) b xs ys grows one two =
    let here : found ys ≡ 0 = rw grows at two in
    let both = found_append xs ys in
    omega (arith, one, here, both)

pub sends_then : (xs ys : List LinkCall) (a b c : LinkSide) → Sends xs a b → Sends ys b c → Sends (xs ++ ys) a c
sends_then xs ys a b c one two = record {
  tries = one.tries ++ two.tries;
  all = rw (tried_append one.tries two.tries, one.all, two.all) refl;
  trace = rw (made_append one.tries two.tries) (Grows_trans a.trace b.trace c.trace (made one.tries) (made two.tries) one.trace two.trace);
  lost = rw (counted_append a.lost one.tries two.tries, ← one.lost) two.lost;
  losses = rw (counted_append a.losses one.tries two.tries, ← one.losses) two.losses;
  observed = found_none a.trace b.trace one.tries two.tries one.trace one.observed two.observed;
}

pub prefix_then : (xs ys : List LinkCall) (a b c : LinkSide) → Sends xs a b → SendsPrefix ys b c → SendsPrefix (xs ++ ys) a c
prefix_then xs ys a b c one two = record {
  before = xs ++ two.before;
  rest = two.rest;
  split = ap (λ zs. xs ++ zs) two.split ∙ sym (append_assoc xs two.before two.rest);
  sends = sends_then xs two.before a b c one two.sends;
}

pub prefix_more : (xs ys : List LinkCall) (a b : LinkSide) → SendsPrefix xs a b → SendsPrefix (xs ++ ys) a b
prefix_more xs ys a b one = record {
  before = one.before;
  rest = one.rest ++ ys;
  split = ap (λ zs. zs ++ ys) one.split ∙ append_assoc one.before one.rest ys;
  sends = one.sends;
}

unless_append : (b : Bool) (d : LinkCall) (xs ys : List LinkCall) → unless b d (xs ++ ys) ≡ unless b d xs ++ ys
unless_append true d xs ys = refl
unless_append false d xs ys = refl

pub datagrams_add : (bytes : List ℕ) (skipped : Option ℕ) (first m n : ℕ) → datagrams_from bytes skipped first (m + n)
    ≡ datagrams_from bytes skipped first m ++ datagrams_from bytes skipped (first + m) n
datagrams_add bytes skipped first zero n =
    let a : zero + n ≡ n = omega arith in
    let b : first + zero ≡ first = omega arith in
    rw (a, b) refl
datagrams_add bytes skipped first (suc m) n =
    let a : suc m + n ≡ suc (m + n) = omega arith in
    let b : first + suc m ≡ (first + 1) + m = omega arith in
    rw (a, b) (ap (unless (is_skipped skipped first) (Sent first bytes)) (datagrams_add bytes skipped (first + 1) m n)
    ∙ unless_append (is_skipped skipped first) (Sent first bytes)
    (datagrams_from bytes skipped (first + 1) m) (datagrams_from bytes skipped ((first + 1) + m) n))

pub Grows_none : {A : Type 0} (s : Option (List A)) → Grows s s []
Grows_none None = tt
Grows_none (Some xs) = ap Some (sym (append-nil xs))

observed_none : {A : Type 0} (o : Option A) → StaysIfObserved o 0 0
observed_none None = tt
observed_none (Some x) = refl

pub no_sends : (a : LinkSide) → Sends [] a a
no_sends a = record { tries = []; all = refl; trace = Grows_none a.trace; lost = refl; losses = refl; observed = observed_none a.trace }

pub Adds_Grows : {A : Type 0} (a b : Option (List A)) (x : A) → Adds a b x → Grows a b (x ∷ [])
Adds_Grows None b x one = tt
Adds_Grows (Some xs) b x one = one

pub Stays_Grows : {A : Type 0} (a b : Option (List A)) → Stays a b → Grows a b []
Stays_Grows None b one = tt
Stays_Grows (Some xs) b one = one ∙ ap Some (sym (append-nil xs))

pub sent_one : (c : LinkCall) (a b : LinkSide) → Adds a.trace b.trace c → b.lost ≡ a.lost → b.losses ≡ a.losses → Sends (c ∷ []) a b
sent_one c a b trace lost losses = record {
  tries = Made c ∷ [];
  all = refl;
  trace = Adds_Grows a.trace b.trace c trace;
  lost = lost;
  losses = losses;
  observed = observed_none a.trace;
}

pub lost_one : (port : ℕ) (bytes : List ℕ) (a b : LinkSide) → Stays a.trace b.trace → b.lost ≡ next_count a.lost
    → b.losses ≡ next_count a.losses → Sends (Sent port bytes ∷ []) a b
lost_one port bytes a b trace lost losses = record {
  tries = Lost port bytes ∷ [];
  all = refl;
  trace = Stays_Grows a.trace b.trace trace;
  lost = lost;
  losses = losses;
  observed = observed_none a.trace;
}

pub untried : (cs : List LinkCall) (a b : LinkSide) → Stays a.trace b.trace → b.lost ≡ a.lost → b.losses ≡ a.losses → SendsPrefix cs a b
untried cs a b trace lost losses = record {
  before = [];
  rest = cs;
  split = refl;
  sends =
      record {
        tries = [];
        all = refl;
        trace = Stays_Grows a.trace b.trace trace;
        lost = lost;
        losses = losses;
        observed = observed_none a.trace;
      };
}

-- ---- a poll

found_late : {A : Type 0} (o : Option A) (before now k : ℕ) → StaysIfObserved o before now → now ≡ before + k → StaysIfObserved o 0 (k + 0)
found_late None before now k stays is = tt
found_late (Some x) before now k stays is = omega (arith, stays, is)

pub polled_link : {T : Type 0} (r : Result T DeviceError) (a b : LinkSide) → TracesPoll a.trace b.trace r → a.losses ≤ b.losses
    → StaysIfObserved a.trace a.losses b.losses → b.losses ≤ last_count → b.lost ≡ min (a.lost + (b.losses - a.losses)) last_count
    → PollsLink r a b
polled_link (Ok t) a b trace later stays most lost = record {
  tries = Made Polled ∷ Found (b.losses - a.losses) ∷ [];
  all = refl;
  trace = Adds_Grows a.trace b.trace Polled trace;
  lost = lost;
  losses = omega (arith, later, most);
  observed = found_late a.trace a.losses b.losses (b.losses - a.losses) stays (omega (arith, later));
}
polled_link (Err links.Failed) a b trace later stays most lost = record {
  tries = Made Polled ∷ Found (b.losses - a.losses) ∷ [];
  all = refl;
  trace = Adds_Grows a.trace b.trace Polled trace;
  lost = lost;
  losses = omega (arith, later, most);
  observed = found_late a.trace a.losses b.losses (b.losses - a.losses) stays (omega (arith, later));
}
polled_link (Err links.NoMemory) a b trace later stays most lost = record {
  tries = Found (b.losses - a.losses) ∷ [];
  all = refl;
  trace = Stays_Grows a.trace b.trace trace;
  lost = lost;
  losses = omega (arith, later, most);
  observed = found_late a.trace a.losses b.losses (b.losses - a.losses) stays (omega (arith, later));
}

-- ---- many sends

pub then_all : {T : Type 0} (xs ys : List LinkCall) (r : Result T NoMemory) (a b c : LinkSide) → Sends xs a b → SendsAll ys r b c
    → SendsAll (xs ++ ys) r a c
then_all xs ys (Ok t) a b c one two = sends_then xs ys a b c one two
then_all xs ys (Err e) a b c one two = prefix_then xs ys a b c one two

-- one more of so many datagrams
pub one_more : (bytes : List ℕ) (skipped : Option ℕ) (first i : ℕ) (a b c : LinkSide) → Sends (datagrams_from bytes skipped first i) a b
    → Sends (unless (is_skipped skipped (first + i)) (Sent (first + i) bytes) []) b c
    → Sends (datagrams_from bytes skipped first (i + 1)) a c
one_more bytes skipped first i a b c one two =
    rw (datagrams_add bytes skipped first i 1) (sends_then (datagrams_from bytes skipped first i)
    (unless (is_skipped skipped (first + i)) (Sent (first + i) bytes) []) a b c one two)

-- the next of so many datagrams was not tried
one_less_of : (bytes : List ℕ) (skipped : Option ℕ) (first i rest : ℕ) (a b c : LinkSide) → Sends (datagrams_from bytes skipped first i) a b
    → SendsPrefix (unless (is_skipped skipped (first + i)) (Sent (first + i) bytes) []) b c
    → SendsPrefix (datagrams_from bytes skipped first (i + (1 + rest))) a c
one_less_of bytes skipped first i rest a b c one two =
    rw (datagrams_add bytes skipped first i (1 + rest), datagrams_add bytes skipped (first + i) 1 rest)
    (prefix_then (datagrams_from bytes skipped first i)
    (datagrams_from bytes skipped (first + i) 1 ++ datagrams_from bytes skipped (first + i + 1) rest) a b c one
    (prefix_more (unless (is_skipped skipped (first + i)) (Sent (first + i) bytes) [])
    (datagrams_from bytes skipped (first + i + 1) rest) b c two))

pub one_less : (bytes : List ℕ) (skipped : Option ℕ) (first count i : ℕ) (a b c : LinkSide) → i < count
    → Sends (datagrams_from bytes skipped first i) a b
    → SendsPrefix (unless (is_skipped skipped (first + i)) (Sent (first + i) bytes) []) b c
    → SendsPrefix (datagrams_from bytes skipped first count) a c
one_less bytes skipped first count i a b c within one two =
    let total : i + (1 + (count - (i + 1))) ≡ count = omega (arith, within) in
    rw total at (one_less_of bytes skipped first i (count - (i + 1)) a b c one two)
