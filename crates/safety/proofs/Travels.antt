-- The network goes on to carry the letters.
use Rattle.std.proofs.Common.{◌≡◌, ◌<◌, ◌+◌, ◌^◌, ℕ, Bool, true, false, cond, Some, refl, sym, ap, subst, ◌∙◌, inl, inr, List, [], ◌∷◌}
use Rattle.std.proofs.Common.{◌++◌}
use Rattle.std.specs.Prelude.{◌==◌, ◌&&◌, Result, Ok, map, slice_get, slice_set}
use Rattle.std.specs.List.{AllByRecursion}
use Rattle.std.proofs.lemmas.Bool.{eqb-true, eq-eqb, and_parts}
use Rattle.std.proofs.lemmas.List.{append-nil, map-append}
use Rattle.nop_types.specs.Lists.{Has}
use Rattle.nop_types.specs.Meaning.{Meaning}
use Rattle.nop_types.specs.Ranges.{PeerFits}
use Rattle.nop_types.specs.declared.datagram.Datagram.{Datagram}
use Rattle.nop_types.specs.declared.datagram.Datagram.TheVariants as datagrams
use Rattle.nop_types.specs.declared.datagram.Fragment.{Fragment}
use Rattle.nop_types.specs.declared.output.Actor.{Actor}
use Rattle.nop_types.specs.declared.output.Actor.TheVariants as actors
use Rattle.nop_types.specs.declared.output.Out.{Out}
use Rattle.nop_types.specs.declared.peer.Peer.{Peer}
use Rattle.lemmas.specs.Functions.{put}
use Rattle.lemmas.proofs.Members.{Has-none, Has-first, Has-rest, Has-cases, Has-append_left, Has-append_right, Has-append_cases}
use Rattle.oum_codec.specs.declared.bad.Bad.{Bad}
use Rattle.oum_codec.specs.Reading.{reading}
use Rattle.fragments.specs.Joining.{Waiting, taken}
use Rattle.fragments.specs.Runs.{AllCame}
use Rattle.fragments.specs.Runs as fragments
use Rattle.fragments.proofs.Came.{keeps_what_came}
use Rattle.fragments.proofs.Whole.{joins_what_was_sent}
use Rattle.peer_codec.specs.Reading as peers
use Rattle.peer_codec.specs.Spelling.{spelling}
use Rattle.peer_codec.proofs.Peers.{spelling_is_injective, reads_again}
use Rattle.replica_core.specs.Posting.{posted}
use Rattle.replica_core.specs.ReplicaSteps.{Replica}
use Rattle.replica_state.specs.Sends.{SendingFits, message_count}
use Rattle.replica_state.specs.declared.sending.Sending.{Sending}
use Rattle.replica_state.specs.declared.sending.Sending.TheVariants.{ToReplicas}
use Rattle.trimmed_rows.specs.Trimmed.{trimmed_peer}
use Rattle.network.specs.Network.{Sent, sends_of}
use Rattle.world.specs.Seats.{Seated}
use Rattle.network_laws.specs.Carried.{Carried}
use Rattle.network_laws.specs.Network.{bytes_in, fragments_among, IsDatagram, Network}
use Rattle.network_laws.specs.PostedFragments.{fragment_read, fragments_in, messages_from}
use Rattle.network_laws.specs.Sends.{peers_in, IsBy}
use Rattle.network_laws.specs.Steps.{InNetwork}
use Rattle.network_laws.proofs.Carrying.{posting_carries_under}
use Rattle.network_laws.proofs.Networks.{among_append, among_outs, posting_network}
use Rattle.network_laws.proofs.Replicas.{stays_in_network, other_in_network}
use Rattle.whole_world.specs.Shows.{peers_of}
use Rattle.whole_world.specs.Whole.{WholeWorld, Letter, letters_in, letter_of}
use Rattle.whole_world.proofs.Mapped.{slice_get-from_map, Has-map}
use Rattle.whole_world.proofs.ReplicaSteps.{letters_peers}
use Rattle.whole_world.proofs.Seats.{seats_become, seats_same}
use Rattle.safety.specs.Following.{bytes_of}
use Rattle.safety.specs.Following.{is_fragment, message_of, trimmed_letter, SameMembers, CarriesLetters, JoinsTrimmed}
use Rattle.safety.proofs.Beside.{Travels, JoinsLetter, real_letters}
use Rattle.safety.proofs.Outputs.{bytes_after}

-- ---- members of lists

-- what comes in front of one list comes behind the other
joined_members : {A : Type 0} (more xs ys zs : List A) → zs ≡ ys ++ more → SameMembers xs ys → SameMembers (more ++ xs) zs
joined_members more xs ys zs is h = record {
  to = λ x i. subst (λ (t : List _). Has t x) (sym is) (elim (Has-append_cases more xs x i) [
    | inl a ↦ Has-append_right ys more x a
    | inr b ↦ Has-append_left ys more x (h.to x b)
  ]);
  from = λ x i. elim (Has-append_cases ys more x (subst (λ (t : List _). Has t x) is i)) [
    | inl b ↦ Has-append_right more xs x (h.from x b)
    | inr a ↦ Has-append_left more xs x a
  ];
}

-- ---- the letters of a row

letters_messages : (number : ℕ) (sends : List Sending) → map message_of (letters_in number sends) ≡ messages_from number sends
letters_messages number [] = refl
letters_messages number (ToReplicas dest p ∷ sends) =
    ap (λ (xs : List fragments.Sent). record { sender = p.sender; number = number + 1; bytes = spelling p } ∷ xs)
    (letters_messages (number + 1) sends)
letters_messages number (_ ∷ sends) = letters_messages number sends

-- ---- what others send has no fragments

other_none : (r : Result Datagram Bad) → is_fragment r ≡ false → fragment_read r ≡ []
other_none (Ok (datagrams.Fragment f)) e = absurd cc
other_none _ e = refl

pub none_among : (more : List Sent) → ((s : Sent) → Has more s → is_fragment (reading s.bytes) ≡ false)
    → fragments_among (bytes_of more) ≡ []
none_among [] all = refl
none_among (s ∷ more) all =
    ap (λ (fs : List Fragment). fs ++ fragments_among (bytes_of more)) (other_none (reading s.bytes) (all s (Has-first s s more refl)))
    ∙ none_among more (λ x h. all x (Has-rest x s more h))

-- the network, and what was sent under which number
record Under (peer_messages : List Peer) (bytes : List (List ℕ)) (used : ℕ → ℕ) (sent : List fragments.Sent) : Type 0 where
  network : Network peer_messages bytes used
  is : network.carried.sent ≡ sent

-- what is carried, likewise
record CarriedAs (peer_messages : List Peer) (net : List Fragment) (used : ℕ → ℕ) (sent : List fragments.Sent) : Type 0 where
  carried : Carried peer_messages net used
  is : carried.sent ≡ sent

under : (peer_messages : List Peer) (bytes : List (List ℕ)) (used : ℕ → ℕ) (sent : List fragments.Sent)
    → ((b : List ℕ) → Has bytes b → IsDatagram b) → CarriedAs peer_messages (fragments_among bytes) used sent → Under peer_messages bytes used sent
under peer_messages bytes used sent all h = record { network = record { datagrams = all; carried = h.carried }; is = h.is }

posts_by : (bytes : List (List ℕ)) (used : ℕ → ℕ) (letters : List Letter) (peer_messages : List Peer) (sent : List fragments.Sent)
    → Under peer_messages bytes used sent → SameMembers peer_messages (peers_of letters) → SameMembers sent (map message_of letters) → CarriesLetters bytes used letters
posts_by bytes used letters peer_messages sent h peers messages = record {
  peer_messages = peer_messages;
  network = h.network;
  peers = peers;
  messages = subst (λ (xs : List fragments.Sent). SameMembers xs (map message_of letters)) (sym h.is) messages;
}

module _ (bytes : List (List ℕ)) (used : ℕ → ℕ) (letters : List Letter) (h : CarriesLetters bytes used letters) where
  -- datagrams that are no fragments
  pub posts_others : (more : List (List ℕ)) → fragments_among more ≡ [] → ((b : List ℕ) → Has more b → IsDatagram b)
      → CarriesLetters (bytes ++ more) used letters
  posts_others more none all =
      let same : fragments_among (bytes ++ more) ≡ fragments_among bytes =
      among_append bytes more ∙ ap (λ (fs : List Fragment). fragments_among bytes ++ fs) none ∙ append-nil (fragments_among bytes) in
      posts_by (bytes ++ more) used letters h.peer_messages h.network.carried.sent
      (under h.peer_messages (bytes ++ more) used h.network.carried.sent
      (λ b i. elim (Has-append_cases bytes more b i) [ inl old ↦ h.network.datagrams b old | inr fresh ↦ all b fresh ])
      (subst (λ (fs : List Fragment). CarriedAs h.peer_messages fs used h.network.carried.sent) (sym same)
      (record { carried = h.network.carried; is = refl }))) h.peers h.messages

  -- what a replica posts
  pub posts_row : (r : ℕ) (sends : List Sending) → AllByRecursion SendingFits sends → AllByRecursion (IsBy r) sends
      → used r + message_count sends < 2 ^ 64
      → CarriesLetters (bytes ++ bytes_in (posted (used r) sends)) (put used r (used r + message_count sends)) (letters ++ letters_in (used r) sends)
  posts_row r sends fits by high =
      let os : List Out = posted (used r) sends in
      let peer_messages : List Peer = peers_in sends ++ h.peer_messages in
      let used_then : ℕ → ℕ = put used r (used r + message_count sends) in
      let sent : List fragments.Sent = messages_from (used r) sends ++ h.network.carried.sent in
      let all : List Letter = letters ++ letters_in (used r) sends in
      let more : fragments_among (bytes ++ bytes_in os) ≡ fragments_among bytes ++ fragments_in os =
      among_append bytes (bytes_in os) ∙ ap (λ (fs : List Fragment). fragments_among bytes ++ fs) (among_outs os) in
      let c = posting_carries_under h.peer_messages (fragments_among bytes) used r sends h.network.carried fits by high in
      posts_by (bytes ++ bytes_in os) used_then all peer_messages sent
      (under peer_messages (bytes ++ bytes_in os) used_then sent
      (posting_network h.peer_messages bytes used r sends h.network fits by high).datagrams
      (subst (λ (fs : List Fragment). CarriedAs peer_messages fs used_then sent) (sym more) (record { carried = c.0; is = c.1 })))
      (joined_members (peers_in sends) h.peer_messages (peers_of letters) (peers_of all)
      (map-append (λ (x : Letter). x.peer) letters (letters_in (used r) sends)
      ∙ ap (λ (ps : List Peer). peers_of letters ++ ps) (letters_peers (used r) sends)) h.peers)
      (joined_members (messages_from (used r) sends) h.network.carried.sent (map message_of letters) (map message_of all)
      (map-append message_of letters (letters_in (used r) sends)
      ∙ ap (λ (xs : List fragments.Sent). map message_of letters ++ xs) (letters_messages (used r) sends)) h.messages)

-- ---- with the replicas

sent_fit : (sends : List Sending) (p : Peer) → AllByRecursion SendingFits sends → Has (peers_in sends) p → PeerFits p
sent_fit [] p fits h = absurd (Has-none p h)
sent_fit (ToReplicas dest q ∷ sends) p fits h = elim (Has-cases p q (peers_in sends) h) [
  | inl e ↦ subst PeerFits (sym e) fits.0
  | inr j ↦ sent_fit sends p fits.1 j
]
sent_fit (_ ∷ sends) p fits h = sent_fit sends p fits.1 h

-- letters of a row more
more_fit : (letters : List Letter) (number : ℕ) (sends : List Sending) → ((p : Peer) → Has (peers_of letters) p → PeerFits p)
    → AllByRecursion SendingFits sends → (p : Peer) → Has (peers_of (letters ++ letters_in number sends)) p → PeerFits p
more_fit letters number sends old fits p h =
    let parts : peers_of (letters ++ letters_in number sends) ≡ peers_of letters ++ peers_in sends =
    map-append (λ (x : Letter). x.peer) letters (letters_in number sends)
    ∙ ap (λ (ps : List Peer). peers_of letters ++ ps) (letters_peers number sends) in
    elim (Has-append_cases (peers_of letters) (peers_in sends) p (subst (λ (ps : List Peer). Has ps p) parts h)) [
      | inl was ↦ old p was
      | inr fresh ↦ sent_fit sends p fits fresh
    ]

-- a replica keeps its state, and nothing is sent
pub travels_quiet : (sent : List Sent) (replicas : List (Seated Replica)) (letters : List Letter) (i : ℕ) (old new : Seated Replica)
    → slice_get replicas i ≡ Some old → new.state ≡ old.state → Travels sent replicas letters
    → Travels (sent ++ []) (slice_set replicas i new) letters
travels_quiet sent replicas letters i old new there same h =
    subst (λ (ss : List Sent). Travels ss (slice_set replicas i new) letters) (sym (append-nil sent))
    (record {
      used = h.used;
      posts = h.posts;
      fits = h.fits;
      members = seats_same (λ j s. InNetwork (bytes_of sent) h.used j s) replicas i old new there same h.members;
    })

-- another actor sends
pub travels_others : (sent more : List Sent) (replicas : List (Seated Replica)) (letters : List Letter)
    → ((s : Sent) → Has more s → is_fragment (reading s.bytes) ≡ false) → ((b : List ℕ) → Has (bytes_of more) b → IsDatagram b)
    → Travels sent replicas letters → Travels (sent ++ more) replicas letters
travels_others sent more replicas letters others all h =
    let after : bytes_of (sent ++ more) ≡ bytes_of sent ++ bytes_of more = map-append (λ (s : Sent). s.bytes) sent more in
    record {
      used = h.used;
      posts = subst (λ (b : List (List ℕ)). CarriesLetters b h.used letters) (sym after)
          (posts_others (bytes_of sent) h.used letters h.posts (bytes_of more) (none_among more others) all);
      fits = h.fits;
      members = λ i q e. subst (λ (b : List (List ℕ)). InNetwork b h.used i q.state) (sym after)
          (stays_in_network (bytes_of sent) (bytes_of more) h.used i q.state (h.members i q e));
    }

-- a replica posts what its row sends
pub travels_row : (sent : List Sent) (replicas : List (Seated Replica)) (letters : List Letter) (i : ℕ) (old new : Seated Replica)
    (outs : List Out) (sends : List Sending) → slice_get replicas i ≡ Some old → AllByRecursion SendingFits sends
    → AllByRecursion (IsBy i) sends → old.state.messages + message_count sends < 2 ^ 64 → outs ≡ posted old.state.messages sends
    → new.state.messages ≡ old.state.messages + message_count sends
    → (h : Travels sent replicas letters)
    → InNetwork (bytes_of sent ++ bytes_in outs) (put h.used i new.state.messages) i new.state
    → Travels (sent ++ sends_of (actors.Replica i) outs) (slice_set replicas i new) (letters ++ letters_in old.state.messages sends)
travels_row sent replicas letters i old new outs sends there fits by high are counts h fresh =
    let from : Actor = actors.Replica i in
    let after : bytes_of (sent ++ sends_of from outs) ≡ bytes_of sent ++ bytes_in outs = bytes_after sent from outs in
    let used : ℕ → ℕ = put h.used i new.state.messages in
    let last : old.state.messages ≡ h.used i = (h.members i old there).messages in
    let count : new.state.messages ≡ h.used i + message_count sends =
    counts ∙ ap (λ (n : ℕ). n + message_count sends) last in
    let posts : CarriesLetters (bytes_of sent ++ bytes_in outs) used (letters ++ letters_in old.state.messages sends) =
    subst (λ (n : ℕ). CarriesLetters (bytes_of sent ++ bytes_in outs) (put h.used i n) (letters ++ letters_in old.state.messages sends)) (sym count)
    (subst (λ (n : ℕ). CarriesLetters (bytes_of sent ++ bytes_in outs) (put h.used i (h.used i + message_count sends)) (letters ++ letters_in n sends))
    (sym last)
    (subst (λ (os : List Out). CarriesLetters (bytes_of sent ++ bytes_in os) (put h.used i (h.used i + message_count sends))
    (letters ++ letters_in (h.used i) sends)) (sym (are ∙ ap (λ (n : ℕ). posted n sends) last))
    (posts_row (bytes_of sent) h.used letters h.posts i sends fits by (subst (λ (n : ℕ). n + message_count sends < 2 ^ 64) last high)))) in
    record {
      used = used;
      posts = subst (λ (b : List (List ℕ)). CarriesLetters b used (letters ++ letters_in old.state.messages sends)) (sym after) posts;
      fits = more_fit letters old.state.messages sends h.fits fits;
      members = seats_become (λ j s. InNetwork (bytes_of sent) h.used j s) (λ j s. InNetwork (bytes_of (sent ++ sends_of from outs)) used j s)
          replicas i new
          (subst (λ (b : List (List ℕ)). InNetwork b used i new.state) (sym after) fresh)
          (λ j s other g. subst (λ (b : List (List ℕ)). InNetwork b used j s) (sym after)
          (other_in_network (bytes_of sent) (bytes_in outs) h.used i j new.state.messages s other g))
          h.members;
    }

-- ---- what is joined

-- a letter with this sender, number and bytes
record IsLetter (letters : List Letter) (q n : ℕ) (bytes : List ℕ) : Type 0 where
  letter : Letter
  has : Has letters letter
  sender : letter.peer.sender ≡ q
  number : letter.number ≡ n
  spelled : spelling letter.peer ≡ bytes

-- where all letters of the sender and number have these bytes, and one of them is there, it is found
letter_is : (letters : List Letter) (q n : ℕ) (p : Peer)
    → ((x : Letter) → Has letters x → x.peer.sender ≡ q → x.number ≡ n → x.peer ≡ p)
    → (x : Letter) → Has letters x → x.peer.sender ≡ q → x.number ≡ n → letter_of letters q n ≡ Some p
letter_is [] q n p same x h sender number = absurd (Has-none x h)
letter_is (y ∷ letters) q n p same x h sender number =
    by ((y.peer.sender == q) && (y.number == n)) refl
    (λ i. letter_is letters q n p (λ z j. same z (Has-rest z y letters j)) x i sender number)
  where
    -- the first letter is the one that is sought
    not_first : ((y.peer.sender == q) && (y.number == n)) ≡ false → x ≡ y → ⊥
    not_first e first =
        let a : (y.peer.sender == q) ≡ true = eq-eqb y.peer.sender q (ap (λ (z : Letter). z.peer.sender) (sym first) ∙ sender) in
        let b : (y.number == n) ≡ true = eq-eqb y.number n (ap (λ (z : Letter). z.number) (sym first) ∙ number) in
        let both : ((y.peer.sender == q) && (y.number == n)) ≡ true = ap (λ (t : Bool). t && (y.number == n)) a ∙ b in
        cc

    by : (t : Bool) → ((y.peer.sender == q) && (y.number == n)) ≡ t → (Has letters x → letter_of letters q n ≡ Some p)
        → cond t (Some y.peer) (letter_of letters q n) ≡ Some p
    by true e rest =
        let parts = and_parts (y.peer.sender == q) (y.number == n) e in
        ap Some (same y (Has-first y y letters refl) (eqb-true y.peer.sender q parts.0) (eqb-true y.number n parts.1))
    by false e rest = elim (Has-cases x y letters h) [ inl first ↦ absurd (not_first e first) | inr later ↦ rest later ]

found_message : (letters : List Letter) (q n : ℕ) (bytes : List ℕ)
    → Has (map message_of letters) (record { sender = q; number = n; bytes = bytes }) → IsLetter letters q n bytes
found_message letters q n bytes h =
    let t = slice_get-from_map message_of letters h.0 (record { sender = q; number = n; bytes = bytes }) h.1 in
    record {
      letter = t.from;
      has = (h.0, t.there);
      sender = ap (λ (x : fragments.Sent). x.sender) t.is;
      number = ap (λ (x : fragments.Sent). x.number) t.is;
      spelled = ap (λ (x : fragments.Sent). x.bytes) t.is;
    }

pub joins_letter : (letters : List Letter) (bytes : List (List ℕ)) (used : ℕ → ℕ) (waiting : List Waiting) (f : Fragment)
    (joined : List ℕ) → CarriesLetters bytes used letters → ((p : Peer) → Has (peers_of letters) p → PeerFits p)
    → AllCame (fragments_among bytes) waiting → Has (fragments_among bytes) f → (taken waiting f).1 ≡ Some joined
    → JoinsLetter letters f joined
joins_letter letters bytes used waiting f joined posts fit came here is =
    let net : List Fragment = fragments_among bytes in
    let parts = (keeps_what_came net waiting f here came).gave joined is in
    let carried : Carried posts.peer_messages net used = posts.network.carried in
    let sent = joins_what_was_sent carried.sent net f joined carried.distinct carried.cut here parts in
    let x = found_message letters f.replica f.message joined (posts.messages.to _ sent) in
    let fits : PeerFits x.letter.peer = fit x.letter.peer (Has-map (λ (y : Letter). y.peer) letters x.letter x.has) in
    record {
      peer = x.letter.peer;
      read = ap peers.reading (sym x.spelled) ∙ reads_again x.letter.peer fits;
      sender = x.sender;
      letter = letter_is letters f.replica f.message x.letter.peer
          (λ y i sender number. spelling_is_injective y.peer x.letter.peer
          (fit y.peer (Has-map (λ (z : Letter). z.peer) letters y i)) fits
          (carried.distinct (message_of y) (message_of x.letter) (posts.messages.from (message_of y) (Has-map message_of letters y i))
          (posts.messages.from (message_of x.letter) (Has-map message_of letters x.letter x.has))
          (sender ∙ sym x.sender) (number ∙ sym x.number)))
          x.letter x.has x.sender x.number;
    }

-- ---- letters as they travel

-- a letter is found by its sender and number, trimmed or not
pub record FindsWhole {S : Type 0} (m : Meaning S) (letters : List Letter) (q n : ℕ) (p : Peer) : Type 0 where
  pub peer : Peer
  pub found : letter_of letters q n ≡ Some peer
  pub is : trimmed_peer m peer ≡ p

pub finds_whole : {S : Type 0} (m : Meaning S) (letters : List Letter) (q n : ℕ) (p : Peer)
    → letter_of (map (trimmed_letter m) letters) q n ≡ Some p → FindsWhole m letters q n p
finds_whole m [] q n p e = absurd cc
finds_whole m (x ∷ letters) q n p e = by ((x.peer.sender == q) && (x.number == n)) refl (λ r. finds_whole m letters q n p r) e
  where
    by : (b : Bool) → ((x.peer.sender == q) && (x.number == n)) ≡ b
        → (letter_of (map (trimmed_letter m) letters) q n ≡ Some p → FindsWhole m letters q n p)
        → cond b (Some (trimmed_peer m x.peer)) (letter_of (map (trimmed_letter m) letters) q n) ≡ Some p
        → FindsWhole m (x ∷ letters) q n p
    by true b others g = record {
      peer = x.peer;
      found = ap (λ (t : Bool). cond t (Some x.peer) (letter_of letters q n)) b;
      is = cc;
    }
    by false b others g = let rest = others g in record {
      peer = rest.peer;
      found = ap (λ (t : Bool). cond t (Some x.peer) (letter_of letters q n)) b ∙ rest.found;
      is = rest.is;
    }

pub joins_trimmed : {S : Type 0} (m : Meaning S) (sent : List Sent) (replicas : List (Seated Replica)) (w : WholeWorld)
    → Travels sent replicas (real_letters m w) → (waiting : List Waiting) (f : Fragment) (bytes : List ℕ)
    → AllCame (fragments_among (bytes_of sent)) waiting → Has (fragments_among (bytes_of sent)) f → (taken waiting f).1 ≡ Some bytes
    → JoinsTrimmed m w f bytes
joins_trimmed m sent replicas w travels waiting f bytes came here is =
    let h = joins_letter (real_letters m w) (bytes_of sent) travels.used waiting f bytes travels.posts travels.fits came here is in
    let x = finds_whole m w.letters f.replica f.message h.peer h.letter in
    record {
      peer = x.peer;
      read = h.read ∙ ap Ok (sym x.is);
      sender = ap (λ (p : Peer). p.sender) x.is ∙ h.sender;
      letter = x.found;
    }
