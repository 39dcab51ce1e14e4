-- Where all was cut by its senders, what is answered was sent.
use Rattle.std.proofs.Common.{◌≡◌, ℕ, zero, suc, ◌+◌, ◌*◌, ◌<◌, ◌≤◌, List, [], ◌∷◌, ◌++◌, length, get_or, take, drop, Some, refl, sym, ap}
use Rattle.std.proofs.Common.{subst, ◌∙◌, arith, inl, inr}
use Rattle.std.proofs.Math.Seq.{take-add}
use Rattle.std.proofs.lemmas.List.{take_all, drop-drop}
use Rattle.std.proofs.lemmas.List.Concat.{flat_map-cons}
use Rattle.nop_types.specs.declared.limits.TheConstants.{FRAGMENT_BYTES}
use Rattle.nop_types.specs.declared.datagram.Fragment.{Fragment}
use Rattle.nop_types.specs.Lists.{Has}
use Rattle.lemmas.proofs.Members.{Has-push, Has-push_cases}
use Rattle.fragments.specs.Cutting.{piece, piece_count, fragment_at, first_fragments}
use Rattle.fragments.specs.Joining.{taken}
use Rattle.fragments.specs.Runs.{concat, after, CameInParts, Sent, AreDistinct, AreCutFrom, WasSent}
use Rattle.fragments.proofs.Came.{answers_what_came}

-- a fragment that was cut is the one at its index
pub record IsAt (sender number : ℕ) (bytes : List ℕ) (k : ℕ) (f : Fragment) : Type 0 where
  pub below : f.index < k
  pub same : f ≡ fragment_at sender number bytes f.index

pub is_at : (sender number : ℕ) (bytes : List ℕ) (k : ℕ) (f : Fragment) → Has (first_fragments sender number bytes k) f
    → IsAt sender number bytes k f
is_at sender number bytes zero f h = let none = h.1 in absurd cc
is_at sender number bytes (suc k) f h =
    elim (Has-push_cases (first_fragments sender number bytes k) (fragment_at sender number bytes k) f h) [
      | inl before ↦
          let i = is_at sender number bytes k f before in
          record { below = omega (arith, i.below); same = i.same }
      | inr last ↦
          let k_is : f.index ≡ k = ap (λ (g : Fragment). g.index) (sym last) in
          record { below = omega arith; same = sym last ∙ ap (fragment_at sender number bytes) (sym k_is) }
    ]

piece-drop : (bytes : List ℕ) (i : ℕ) → piece (drop FRAGMENT_BYTES bytes) i ≡ piece bytes (suc i)
unfolding piece
piece-drop bytes i = let k : FRAGMENT_BYTES + FRAGMENT_BYTES * i ≡ FRAGMENT_BYTES * suc i = omega arith in
    ap (take FRAGMENT_BYTES) (drop-drop (FRAGMENT_BYTES * i) FRAGMENT_BYTES bytes ∙ ap (λ (n : ℕ). drop n bytes) k)

first_piece : (bytes : List ℕ) → piece bytes 0 ≡ take FRAGMENT_BYTES bytes
unfolding piece
first_piece bytes = refl

-- the pieces, one after the other
concat-pieces : (parts : List (List ℕ)) (bytes : List ℕ) → ((i : ℕ) → i < length parts → get_or parts i [] ≡ piece bytes i)
    → concat parts ≡ take (FRAGMENT_BYTES * length parts) bytes
concat-pieces [] bytes h = refl
concat-pieces (x ∷ xs) bytes h =
    let first : x ≡ take FRAGMENT_BYTES bytes = h 0 (omega arith) ∙ first_piece bytes in
    let others : concat xs ≡ take (FRAGMENT_BYTES * length xs) (drop FRAGMENT_BYTES bytes) =
    concat-pieces xs (drop FRAGMENT_BYTES bytes) (λ i lt. h (suc i) (omega arith) ∙ sym (piece-drop bytes i)) in
    let size : FRAGMENT_BYTES + FRAGMENT_BYTES * length xs ≡ FRAGMENT_BYTES * suc (length xs) = omega arith in
    flat_map-cons (λ (p : List ℕ). p) x xs
    ∙ rw (first, others) (sym (take-add FRAGMENT_BYTES (FRAGMENT_BYTES * length xs) bytes) ∙ ap (λ (n : ℕ). take n bytes) size)

pub enough : (bytes : List ℕ) → length bytes ≤ FRAGMENT_BYTES * piece_count bytes
unfolding piece_count
enough bytes = omega arith

-- all pieces together are the bytes
pub concat_all : (parts : List (List ℕ)) (bytes : List ℕ) → length parts ≡ piece_count bytes
    → ((i : ℕ) → i < length parts → get_or parts i [] ≡ piece bytes i) → concat parts ≡ bytes
concat_all parts bytes count h = concat-pieces parts bytes h ∙ take_all (FRAGMENT_BYTES * length parts) bytes (rw count (enough bytes))

sent_is : (s : Sent) (a n : ℕ) (b : List ℕ) → a ≡ s.sender → n ≡ s.number → b ≡ s.bytes → record { sender = a; number = n; bytes = b } ≡ s
sent_is s a n b e1 e2 e3 = rw (e1, e2, e3) refl

pub joins_what_was_sent : (sent : List Sent) (net : List Fragment) (f : Fragment) (bytes : List ℕ) → AreDistinct sent → AreCutFrom sent net
    → Has net f → CameInParts net f bytes → WasSent sent f bytes
joins_what_was_sent sent net f bytes distinct cuts here came =
    let own = cuts f here in
    let s = own.message in
    let at = is_at s.sender s.number s.bytes (piece_count s.bytes) f own.cut in
    let sender : s.sender ≡ f.replica = sym (ap (λ (g : Fragment). g.replica) at.same) in
    let number : s.number ≡ f.message = sym (ap (λ (g : Fragment). g.message) at.same) in
    let count : f.count ≡ piece_count s.bytes = ap (λ (g : Fragment). g.count) at.same in
    let each : (i : ℕ) → i < length came.parts → get_or came.parts i [] ≡ piece s.bytes i = λ i lt.
    let g : Fragment = record { replica = f.replica; message = f.message; index = i; count = f.count; payload = get_or came.parts i [] } in
    let from = cuts g (came.came i (rw (← came.count) lt)) in
    let t = from.message in
    let there = is_at t.sender t.number t.bytes (piece_count t.bytes) g from.cut in
    let same_sender : t.sender ≡ s.sender = sym (ap (λ (h : Fragment). h.replica) there.same) ∙ sym sender in
    let same_number : t.number ≡ s.number = sym (ap (λ (h : Fragment). h.message) there.same) ∙ sym number in
    let same_bytes : t.bytes ≡ s.bytes = distinct t s from.was_sent own.was_sent same_sender same_number in
    ap (λ (h : Fragment). h.payload) there.same ∙ ap (λ (b : List ℕ). piece b i) same_bytes in
    let whole : bytes ≡ s.bytes = came.joined ∙ concat_all came.parts s.bytes (came.count ∙ count) each in
    subst (Has sent) (sym (sent_is s f.replica f.message bytes (sym sender) (sym number) whole)) own.was_sent

pub answers_what_was_sent : (sent : List Sent) (n : ℕ) (past : List Fragment) (f : Fragment) (bytes : List ℕ) → AreDistinct sent
    → AreCutFrom sent (past ++ f ∷ []) → (taken (after n past) f).1 ≡ Some bytes → WasSent sent f bytes
answers_what_was_sent sent n past f bytes distinct cuts e =
    joins_what_was_sent sent (past ++ f ∷ []) f bytes distinct cuts (Has-push past f) (answers_what_came n past f bytes e)
