-- Where the first datagram with some bytes stands.
use Rattle.std.proofs.Common.{◌≡◌, ℕ, ◌+◌, Bool, true, false, cond, ◌&&◌, eqb, List, [], ◌∷◌, ◌++◌, length, Option, Some, None}
use Rattle.std.proofs.Common.{take, drop, add-one, Result, Ok, Err, OnOk, OnErr, refl, sym, ap, subst, ◌∙◌, arith, is_some, ⊎_elim}
use Rattle.std.specs.HashMap.{HashMap, get_by, UpdatesBy}
use Rattle.std.specs.List.{position_from}
use Rattle.std.specs.Map.{lookup, KeepsOthers, IsKeyTest, AreApart}
use Rattle.std.specs.Str.{bytes_eq}
use Rattle.std.specs.Cmp.Lexicographic.{nat_list_eq_equiv}
use Rattle.std.proofs.lemmas.Cmp.{nat_eq_equiv}
use Rattle.std.proofs.lemmas.Bool.{cases_Bool, cond-true, cond-false}
use Rattle.std.proofs.lemmas.Slice.Eq.{bytes_eq-Decides}
use Rattle.std.specs.Prelude.{slice_get}
use Rattle.lemmas.proofs.Places.{Splits-at}
use Rattle.network.specs.declared.index.Index.{Index}
use Rattle.network.specs.declared.network.Mark.{Mark}
use Rattle.network.specs.Marks.{datagram_of, all_sent}
use Rattle.network.specs.Network.{Sent}
use Rattle.network.specs.Finding.{has_bytes, first_index, index_in, index_after, IsIndexOf, MayIndex, NotesIn, StaysIn}

-- ---- one more datagram

after_cons : (b c : Bool) (i n : ℕ) (o : Option ℕ) → cond b (Some i) (index_after o c n) ≡ index_after (cond b (Some i) o) c n
after_cons true c i n o = refl
after_cons false c i n o = refl

one_left : (b : Bool) (i : ℕ) → cond b (Some i) None ≡ index_after None b i
one_left true i = refl
one_left false i = refl

pub position_push : (test : Sent → Bool) (i n : ℕ) (xs : List Sent) (x : Sent) → n ≡ i + length xs
    → position_from test i (xs ++ x ∷ []) ≡ index_after (position_from test i xs) (test x) n
position_push test i n [] x e =
    let same : n ≡ i = omega (arith, e) in
    one_left (test x) i ∙ ap (index_after None (test x)) (sym same)
position_push test i n (y ∷ ys) x e =
    ap (cond (test y) (Some i)) (position_push test (i + 1) n ys x (omega (arith, e)))
    ∙ after_cons (test y) (test x) i n (position_from test (i + 1) ys)

-- ---- a map whose keys are read by their bytes

other_entries : {K X : Type 0} (eq : K → K → Bool) (test : K → Bool) (old new : List (K × X)) → KeepsOthers eq test old new
    → (other : K → Bool) → IsKeyTest eq other → AreApart test other → lookup other new ≡ lookup other old
unfolding KeepsOthers
other_entries eq test old new h = h

apart : (bs cs ks : List ℕ) → bytes_eq bs cs ≡ false → bytes_eq bs ks ≡ true → bytes_eq cs ks ≡ false
apart bs cs ks n y = nat_list_eq_equiv.symm cs ks ∙ sym (nat_list_eq_equiv.congr bs ks cs y) ∙ n

-- what is found at some bytes after a value was put at the bytes bs
pub updated_at : {K X S : Type 0} (items : K → List ℕ) (bs : List ℕ) (m n : HashMap K X S) (w : Option X)
    → UpdatesBy (λ x y. bytes_eq (items x) (items y)) (λ k. bytes_eq bs (items k)) m n w
    → (cs : List ℕ) → get_by (λ k. bytes_eq cs (items k)) n ≡ cond (bytes_eq bs cs) w (get_by (λ k. bytes_eq cs (items k)) m)
updated_at items bs m n w h cs =
    ⊎_elim
    (λ y. subst (λ l. get_by (λ k. bytes_eq l (items k)) n ≡ w) ((bytes_eq-Decides bs cs).0 y) h.1
    ∙ sym (cond-true (bytes_eq bs cs) w (get_by (λ k. bytes_eq cs (items k)) m) y))
    (λ e. other_entries _ _ _ _ h.3 _ (λ x y. nat_list_eq_equiv.congr cs (items x) (items y)) (λ k. apart bs cs (items k) e)
    ∙ sym (cond-false (bytes_eq bs cs) w (get_by (λ k. bytes_eq cs (items k)) m) e))
    (cases_Bool (bytes_eq bs cs))

-- ---- noting

stays_if : (o : Option ℕ) (b : Bool) (index : ℕ) → (b ≡ true → is_some o ≡ true) → o ≡ index_after o b index
stays_if (Some i) b index h = refl
stays_if None false index h = refl
stays_if None true index h = absurd (let e : false ≡ true = h refl in cc)

-- a datagram whose bytes were noted changes nothing
pub known_stays : (f : List ℕ → Option ℕ) (datagram : List ℕ) (index : ℕ) → is_some (f datagram) ≡ true
    → (bytes : List ℕ) → f bytes ≡ index_after (f bytes) (bytes_eq bytes datagram) index
known_stays f datagram index known bytes =
    stays_if (f bytes) (bytes_eq bytes datagram) index
    (λ same. ap (λ bs. is_some (f bs)) ((bytes_eq-Decides bytes datagram).0 same) ∙ known)

new_if : (o : Option ℕ) (b : Bool) (index : ℕ) → (b ≡ true → is_some o ≡ false) → cond b (Some index) o ≡ index_after o b index
new_if None true index h = refl
new_if None false index h = refl
new_if (Some i) false index h = refl
new_if (Some i) true index h = absurd (let e : true ≡ false = h refl in cc)

-- one whose bytes are new is noted
pub new_noted : (f g : List ℕ → Option ℕ) (datagram : List ℕ) (index : ℕ) → is_some (f datagram) ≡ false
    → ((bytes : List ℕ) → g bytes ≡ cond (bytes_eq datagram bytes) (Some index) (f bytes))
    → (bytes : List ℕ) → g bytes ≡ index_after (f bytes) (bytes_eq bytes datagram) index
new_noted f g datagram index new put bytes =
    put bytes
    ∙ ap (λ b. cond b (Some index) (f bytes)) (nat_list_eq_equiv.symm datagram bytes)
    ∙ new_if (f bytes) (bytes_eq bytes datagram) index
    (λ same. ap (λ bs. is_some (f bs)) ((bytes_eq-Decides bytes datagram).0 same) ∙ new)

-- ---- the index of a network

-- a datagram behind the others
pub index_of_push : (index : Index) (new : Index) (sent : List Sent) (s : Sent) → IsIndexOf index sent
    → ((bytes : List ℕ) → index_in new bytes ≡ index_after (index_in index bytes) (bytes_eq bytes s.bytes) (length sent))
    → IsIndexOf new (sent ++ s ∷ [])
index_of_push index new sent s before noted bytes =
    noted bytes ∙ ap (λ o. index_after o (bytes_eq bytes s.bytes) (length sent)) (before bytes)
    ∙ sym (position_push (has_bytes bytes) 0 (length sent) sent s (omega arith))

pub may_index_push : (index new : Option Index) (sent : List Sent) (s : Sent) → MayIndex index sent
    → NotesIn index new s.bytes (length sent) → MayIndex new (sent ++ s ∷ [])
may_index_push None None sent s before noted = tt
may_index_push None (Some new) sent s before noted = absurd (let e : Some new ≡ None = noted in cc)
may_index_push (Some index) None sent s before noted = absurd noted
may_index_push (Some index) (Some new) sent s before noted = index_of_push index new sent s before noted

pub may_index_stays : (index new : Option Index) (sent : List Sent) → MayIndex index sent → StaysIn index new → MayIndex new sent
may_index_stays None None sent before stays = tt
may_index_stays None (Some new) sent before stays = absurd (let e : Some new ≡ None = stays in cc)
may_index_stays (Some index) None sent before stays = absurd stays
may_index_stays (Some index) (Some new) sent before stays = λ bytes. stays bytes ∙ before bytes

-- a datagram that was put behind the others, or not
pub may_index_after : {E : Type 0} (r : Result (Unit {0}) E) (index new : Option Index) (sent later : List Sent) (s : Sent) (count : ℕ)
    → count ≡ length sent → MayIndex index sent → OnOk r (NotesIn index new s.bytes count) → OnErr r (StaysIn index new)
    → OnOk r (later ≡ sent ++ s ∷ []) → OnErr r (later ≡ sent) → MayIndex new later
may_index_after (Ok x) index new sent later s count is before noted stays put same =
    let here : NotesIn index new s.bytes (length sent) = subst (NotesIn index new s.bytes) is noted in
    subst (MayIndex new) (sym put) (may_index_push index new sent s before here)
may_index_after (Err x) index new sent later s count is before noted stays put same =
    subst (MayIndex new) (sym same) (may_index_stays index new sent before stays)

-- ---- a datagram in two parts

bool_move : (a b c : Bool) → ((a && b) && c) ≡ (a && (b && c))
bool_move true b c = refl
bool_move false b c = refl

parts_eq : (head rest wanted : List ℕ)
    → (bytes_eq (take (length head) wanted) head && bytes_eq (drop (length head) wanted) rest) ≡ bytes_eq (head ++ rest) wanted
parts_eq [] rest wanted = nat_list_eq_equiv.symm wanted rest
parts_eq (h ∷ hs) rest [] = refl
parts_eq (h ∷ hs) rest (w ∷ ws) =
    bool_move (eqb w h) (bytes_eq (take (length hs) ws) hs) (bytes_eq (drop (length hs) ws) rest)
    ∙ ap (λ (b : Bool). eqb w h && b) (parts_eq hs rest ws)
    ∙ ap (λ (b : Bool). b && bytes_eq (hs ++ rest) ws) (nat_eq_equiv.symm w h)

module _ (head rest wanted prefix back : List ℕ) (is_prefix : prefix ≡ take (length head) wanted)
    (is_back : back ≡ drop (length head) wanted) (b : Bool) (is : b ≡ bytes_eq prefix head) where
  compared : (b && bytes_eq back rest) ≡ bytes_eq (head ++ rest) wanted
  compared =
      ap (λ (x : Bool). x && bytes_eq back rest) (is ∙ ap (λ (xs : List ℕ). bytes_eq xs head) is_prefix)
      ∙ ap (λ (xs : List ℕ). bytes_eq (take (length head) wanted) head && bytes_eq xs rest) is_back
      ∙ parts_eq head rest wanted

  -- the heads are the same
  pub rests_compared : b ≡ true → bytes_eq back rest ≡ bytes_eq (head ++ rest) wanted
  rests_compared same = subst (λ (x : Bool). (x && bytes_eq back rest) ≡ bytes_eq (head ++ rest) wanted) same compared

  pub heads_differ : b ≡ false → b ≡ bytes_eq (head ++ rest) wanted
  heads_differ other =
      other ∙ subst (λ (x : Bool). (x && bytes_eq back rest) ≡ bytes_eq (head ++ rest) wanted) other compared

-- ---- a walk

module _ (wanted bytes : List ℕ) (ms : List Mark) (i : ℕ) where
  -- `i` datagrams were passed, and the first of those that are left is the first of all
  abbrev pub Passed : Type 0
  Passed = position_from (has_bytes wanted) i (all_sent bytes (drop i ms)) ≡ first_index wanted (all_sent bytes ms)

  module _ (m : Mark) (at : slice_get ms i ≡ Some m) (passed : Passed) (b : Bool) (is : b ≡ bytes_eq (datagram_of bytes m) wanted) where
    left : drop i ms ≡ m ∷ drop (i + 1) ms
    left = (Splits-at ms i m at).back ∙ ap (λ (j : ℕ). m ∷ drop j ms) (sym (add-one i))

    next : cond b (Some i) (position_from (has_bytes wanted) (i + 1) (all_sent bytes (drop (i + 1) ms)))
        ≡ first_index wanted (all_sent bytes ms)
    next =
        ap (λ (c : Bool). cond c (Some i) (position_from (has_bytes wanted) (i + 1) (all_sent bytes (drop (i + 1) ms))))
        (is ∙ nat_list_eq_equiv.symm (datagram_of bytes m) wanted)
        ∙ ap (λ (xs : List Mark). position_from (has_bytes wanted) i (all_sent bytes xs)) (sym left) ∙ passed

    pub passed_more : b ≡ false → position_from (has_bytes wanted) (i + 1) (all_sent bytes (drop (i + 1) ms))
        ≡ first_index wanted (all_sent bytes ms)
    passed_more other = subst (λ (c : Bool). cond c (Some i) (position_from (has_bytes wanted) (i + 1) (all_sent bytes (drop (i + 1) ms)))
        ≡ first_index wanted (all_sent bytes ms)) other next

    pub found_here : b ≡ true → Some i ≡ first_index wanted (all_sent bytes ms)
    found_here same = subst (λ (c : Bool). cond c (Some i) (position_from (has_bytes wanted) (i + 1) (all_sent bytes (drop (i + 1) ms)))
        ≡ first_index wanted (all_sent bytes ms)) same next
