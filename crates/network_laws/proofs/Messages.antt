-- The messages among what a replica sends, under the numbers that they take.
use Rattle.std.proofs.Common.{◌≡◌, ◌≤◌, ◌<◌, ◌+◌, ℕ, refl, sym, ap, subst, ◌∙◌, arith, inl, inr, List, [], ◌∷◌}
use Rattle.std.specs.List.{AllByRecursion}
use Rattle.nop_types.specs.Lists.{Has}
use Rattle.nop_types.specs.declared.datagram.Fragment.{Fragment}
use Rattle.nop_types.specs.declared.peer.Peer.{Peer}
use Rattle.lemmas.proofs.Members.{Has-first, Has-rest, Has-none, Has-cases, Has-append_left, Has-append_right, Has-append_cases}
use Rattle.fragments.specs.Cutting.{fragments_of}
use Rattle.fragments.specs.Runs.{Sent, IsCutFrom}
use Rattle.peer_codec.specs.Spelling.{spelling}
use Rattle.replica_state.specs.declared.sending.Sending.{Sending}
use Rattle.replica_state.specs.declared.sending.Sending.TheVariants.{ToClient, ToReplicas, Trims}
use Rattle.replica_state.specs.Sends.{SendingFits, message_count}
use Rattle.network_laws.specs.Carried.{IsMessage}
use Rattle.network_laws.specs.PostedFragments.{messages_from, fragments_of_all}
use Rattle.network_laws.specs.Sends.{peers_in, IsBy}

-- ---- numbers

-- of this sender, under one of the next numbers
pub record IsNext (r number count : ℕ) (x : Sent) : Type 0 where
  pub sender : x.sender ≡ r
  pub low : number < x.number
  pub high : x.number ≤ number + count

pub posted_next : (r number : ℕ) (sends : List Sending) → AllByRecursion (IsBy r) sends → (x : Sent) → Has (messages_from number sends) x
    → IsNext r number (message_count sends) x
posted_next r number [] by x h = absurd (Has-none x h)
posted_next r number (ToClient reply ∷ sends) by x h = posted_next r number sends by.1 x h
posted_next r number (Trims first entries ∷ sends) by x h = posted_next r number sends by.1 x h
posted_next r number (ToReplicas dest p ∷ sends) by x h = elim (Has-cases x _ (messages_from (number + 1) sends) h) [
  | inl first ↦
      subst (IsNext r number (message_count sends + 1)) (sym first) (record { sender = by.0; low = omega arith; high = omega arith })
  | inr later ↦
      let next = posted_next r (number + 1) sends by.1 x later in
      record { sender = next.sender; low = omega (arith, next.low); high = omega (arith, next.high) }
]

-- no number is used twice
pub posted_once : (r number : ℕ) (sends : List Sending) → AllByRecursion (IsBy r) sends → (a b : Sent) → Has (messages_from number sends) a
    → Has (messages_from number sends) b → a.number ≡ b.number → a.bytes ≡ b.bytes
posted_once r number [] by a b i j n = absurd (Has-none a i)
posted_once r number (ToClient reply ∷ sends) by a b i j n = posted_once r number sends by.1 a b i j n
posted_once r number (Trims first entries ∷ sends) by a b i j n = posted_once r number sends by.1 a b i j n
posted_once r number (ToReplicas dest p ∷ sends) by a b i j n =
    elim (Has-cases a _ rest i) [
      | inl first ↦ elim (Has-cases b _ rest j) [
        | inl same ↦ ap (λ (x : Sent). x.bytes) (first ∙ sym same)
        | inr later ↦ absurd (apart a b first later n)
      ]
      | inr later ↦ elim (Has-cases b _ rest j) [
        | inl first ↦ absurd (apart b a first later (sym n))
        | inr other ↦ posted_once r (number + 1) sends by.1 a b later other n
      ]
    ]
  where
    rest : List Sent
    rest = messages_from (number + 1) sends

    apart : (x y : Sent) → x ≡ record { sender = p.sender; number = number + 1; bytes = spelling p } → Has rest y → x.number ≡ y.number → ⊥
    apart x y first later same =
        let at : x.number ≡ number + 1 = ap (λ (z : Sent). z.number) first in
        let above = (posted_next r (number + 1) sends by.1 y later).low in
        omega (arith, at, above, same)

-- ---- messages

-- it is a message too where more were told
pub stays_message : {peer_messages more : List Peer} → ((p : Peer) → Has peer_messages p → Has more p) → (x : Sent) → IsMessage peer_messages x → IsMessage more x
stays_message more x h = record { peer = h.peer; has = more h.peer h.has; fits = h.fits; sender = h.sender; bytes = h.bytes }

pub posted_message : (number : ℕ) (sends : List Sending) → AllByRecursion SendingFits sends → (x : Sent)
    → Has (messages_from number sends) x → IsMessage (peers_in sends) x
posted_message number [] fits x h = absurd (Has-none x h)
posted_message number (ToClient reply ∷ sends) fits x h = posted_message number sends fits.1 x h
posted_message number (Trims first entries ∷ sends) fits x h = posted_message number sends fits.1 x h
posted_message number (ToReplicas dest p ∷ sends) fits x h = elim (Has-cases x _ (messages_from (number + 1) sends) h) [
  | inl first ↦
      subst (IsMessage (p ∷ peers_in sends)) (sym first)
      (record { peer = p; has = Has-first p p (peers_in sends) refl; fits = fits.0; sender = refl; bytes = refl })
  | inr later ↦ stays_message (λ q. Has-rest q p (peers_in sends)) x (posted_message (number + 1) sends fits.1 x later)
]

-- each message was sent under some number
pub record IsPosted (number : ℕ) (sends : List Sending) (p : Peer) : Type 0 where
  pub under : ℕ
  pub has : Has (messages_from number sends) (record { sender = p.sender; number = under; bytes = spelling p })

pub each_posted : (number : ℕ) (sends : List Sending) (p : Peer) → Has (peers_in sends) p → IsPosted number sends p
each_posted number [] p h = absurd (Has-none p h)
each_posted number (ToClient reply ∷ sends) p h = let rest = each_posted number sends p h in record { under = rest.under; has = rest.has }
each_posted number (Trims first entries ∷ sends) p h =
    let rest = each_posted number sends p h in record { under = rest.under; has = rest.has }
each_posted number (ToReplicas dest q ∷ sends) p h = elim (Has-cases p q (peers_in sends) h) [
  | inl first ↦
      subst (IsPosted number (ToReplicas dest q ∷ sends)) (sym first)
      (record { under = number + 1; has = Has-first _ _ (messages_from (number + 1) sends) refl })
  | inr later ↦
      let rest = each_posted (number + 1) sends p later in
      record { under = rest.under; has = Has-rest _ _ (messages_from (number + 1) sends) rest.has }
]

-- ---- fragments

pub cut_from_all : (xs : List Sent) (f : Fragment) → Has (fragments_of_all xs) f → IsCutFrom xs f
cut_from_all [] f h = absurd (Has-none f h)
cut_from_all (x ∷ xs) f h = elim (Has-append_cases (fragments_of x.sender x.number x.bytes) (fragments_of_all xs) f h) [
  | inl first ↦ record { message = x; was_sent = Has-first x x xs refl; cut = first }
  | inr later ↦
      let rest = cut_from_all xs f later in
      record { message = rest.message; was_sent = Has-rest rest.message x xs rest.was_sent; cut = rest.cut }
]

pub all_cut : (xs : List Sent) (x : Sent) → Has xs x → (f : Fragment) → Has (fragments_of x.sender x.number x.bytes) f
    → Has (fragments_of_all xs) f
all_cut [] x h f cut = absurd (Has-none x h)
all_cut (y ∷ ys) x h f cut = elim (Has-cases x y ys h) [
  | inl first ↦
      Has-append_left (fragments_of y.sender y.number y.bytes) (fragments_of_all ys) f
      (subst (λ (z : Sent). Has (fragments_of z.sender z.number z.bytes) f) first cut)
  | inr later ↦ Has-append_right (fragments_of y.sender y.number y.bytes) (fragments_of_all ys) f (all_cut ys x later f cut)
]
