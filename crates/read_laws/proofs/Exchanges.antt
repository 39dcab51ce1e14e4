-- Reads over a network, apart from what observers know: clients ask, observers answer, clients hear. Whatever is lost, repeated and
-- reordered, each answer that is told was asked, is right, and is no earlier than what was told before it was asked.
use Rattle.std.proofs.Common.{◌≡◌, ℕ, ◌+◌, ◌<◌, ◌≤◌, Bool, true, false, List, [], ◌∷◌, ◌++◌, length, Option, Some, None, refl, sym, ap, subst}
use Rattle.std.proofs.Common.{◌∙◌, arith, inl, inr}
use Rattle.std.specs.Prelude.{slice_get}
use Rattle.std.proofs.lemmas.Bool.{cases_eq}
use Rattle.std.proofs.lemmas.Option.{slice_get_within}
use Rattle.nop_types.specs.Lines as said
use Rattle.nop_types.specs.Lines.{Line}
use Rattle.nop_types.specs.Lists.{Has}
use Rattle.nop_types.specs.Meaning.{Meaning}
use Rattle.nop_types.specs.Reads.{ReadIsRight, ReadsAreRight}
use Rattle.nop_types.specs.declared.datagram.Answer.{Answer}
use Rattle.nop_types.specs.declared.datagram.Read.{Read}
use Rattle.nop_types.specs.declared.request.Entry.{Entry}
use Rattle.lemmas.specs.Functions.{put}
use Rattle.lemmas.proofs.Functions.{put-here, put-other}
use Rattle.lemmas.proofs.Members.{Has-append_left, Has-push_cases}
use Rattle.lemmas.proofs.Places.{slice_get-append_at, slice_get-append_cases, slice_get-append_left, slice_get-push_cases}
use Rattle.client_reads.specs.declared.state.Reading.{Reading}

-- the position of each observer; of each client the last id, and the read that waits; what was sent; and the lines
pub record Exchange : Type 0 where
  pub positions : ℕ → ℕ
  pub last : ℕ → ℕ
  pub pending : ℕ → Option Reading
  pub reads : List Read
  pub answers : List Answer
  pub lines : List Line

abbrev pub opening : Exchange
opening = record { positions = λ o. 0; last = λ c. 0; pending = λ c. None; reads = []; answers = []; lines = [] }

-- a client asks an observer for a key
abbrev pub asked : Exchange → ℕ → ℕ → List ℕ → Exchange
asked w c o key =
    record w {
      last = put w.last c (w.last c + 1);
      pending = put w.pending c (Some (record { id = w.last c + 1; observer = o; key = key }));
      reads = w.reads ++ record { client = c; id = w.last c + 1; key = key } ∷ [];
      lines = w.lines ++ said.Read c (w.last c + 1) o key ∷ [];
    }

-- again
abbrev pub again : Exchange → ℕ → Reading → Exchange
again w c p = record w { reads = w.reads ++ record { client = c; id = p.id; key = p.key } ∷ [] }

-- an observer answers, to its client
abbrev pub served : Exchange → ℕ → Read → List ℕ → Exchange
served w o r result =
    record w { answers = w.answers ++ record { observer = o; position = w.positions o; client = r.client; id = r.id; result = result } ∷ [] }

-- the client hears it
abbrev pub told : Exchange → Answer → Exchange
told w a =
    record w {
      pending = put w.pending a.client None;
      lines = w.lines ++ said.Answer a.client a.id a.observer a.position a.result ∷ [];
    }

-- an observer comes further
abbrev pub risen : Exchange → ℕ → ℕ → Exchange
risen w o q = record w { positions = put w.positions o q }

-- lines that neither ask nor answer
abbrev pub passed : Exchange → List Line → Exchange
passed w more = record w { lines = w.lines ++ more }

abbrev pub is_read : Line → Bool
is_read (said.Read client id observer key) = true
is_read (said.Answer client id observer position result) = true
is_read _ = false

abbrev pub AreSilentLines : List Line → Type 0
AreSilentLines ls = (l : Line) → Has ls l → is_read l ≡ false

-- the client waits for this answer
pub record Awaits (p : Option Reading) (a : Answer) : Type 0 where
  pub pending : Reading
  pub is : p ≡ Some pending
  pub id : a.id ≡ pending.id
  pub observer : a.observer ≡ pending.observer

-- a read line of this client and id
record HasRead (ls : List Line) (c id o : ℕ) (key : List ℕ) : Type 0 where
  place : ℕ
  line : slice_get ls place ≡ Some (said.Read c id o key)

abbrev read_stays : (ls more : List Line) (c id o : ℕ) (key : List ℕ) → HasRead ls c id o key → HasRead (ls ++ more) c id o key
read_stays ls more c id o key h = record { place = h.place; line = slice_get-append_left ls more h.place (said.Read c id o key) h.line }

module _ {S : Type 0} (m : Meaning S) (main : List Entry) where
  record WasServed (w : Exchange) (a : Answer) : Type 0 where
    key : List ℕ
    read : Has w.reads (record { client = a.client; id = a.id; key = key })
    right : ReadIsRight m main a.position key a.result

  record WasTold (w : Exchange) (k c id o p : ℕ) (result : List ℕ) : Type 0 where
    answer : Has w.answers (record { observer = o; position = p; client = c; id = id; result = result })
    key : List ℕ
    read : HasRead w.lines c id o key
    before : read.place < k

  pub record Consistent (w : Exchange) : Type 0 where
    reached : (a : Answer) → Has w.answers a → a.position ≤ w.positions a.observer
    open_id : (c : ℕ) (p : Reading) → w.pending c ≡ Some p → p.id ≡ w.last c
    open_read : (c : ℕ) (p : Reading) → w.pending c ≡ Some p → HasRead w.lines c p.id p.observer p.key
    sent : (r : Read) → Has w.reads r → (o : ℕ) × HasRead w.lines r.client r.id o r.key
    used : (i c id o : ℕ) (key : List ℕ) → slice_get w.lines i ≡ Some (said.Read c id o key) → id ≤ w.last c
    asked_once : (i j c id o x : ℕ) (a b : List ℕ) → slice_get w.lines i ≡ Some (said.Read c id o a)
        → slice_get w.lines j ≡ Some (said.Read c id x b) → i ≡ j
    served_is : (a : Answer) → Has w.answers a → WasServed w a
    told_is : (k c id o p : ℕ) (result : List ℕ) → slice_get w.lines k ≡ Some (said.Answer c id o p result) → WasTold w k c id o p result
    told_old : (k c id o p : ℕ) (result : List ℕ) → slice_get w.lines k ≡ Some (said.Answer c id o p result) → (q : Reading)
        → w.pending c ≡ Some q → id < q.id
    told_once : (i j c id o x p q : ℕ) (a b : List ℕ) → slice_get w.lines i ≡ Some (said.Answer c id o p a)
        → slice_get w.lines j ≡ Some (said.Answer c id x q b) → i ≡ j
    later : (k l c d i n o p x : ℕ) (result key : List ℕ) (a : Answer) → k < l → slice_get w.lines k ≡ Some (said.Answer c i o p result)
        → slice_get w.lines l ≡ Some (said.Read d n x key) → Has w.answers a → a.client ≡ d → a.id ≡ n → a.observer ≡ o → p ≤ a.position

  -- an id that is told was used
  told_used : (w : Exchange) → Consistent w → (k c id o p : ℕ) (result : List ℕ)
      → slice_get w.lines k ≡ Some (said.Answer c id o p result) → id ≤ w.last c
  told_used w i k c id o p result at = let t = i.told_is k c id o p result at in i.used t.read.place c id o t.key t.read.line

  -- so was one that is answered
  served_used : (w : Exchange) → Consistent w → (a : Answer) → Has w.answers a → a.id ≤ w.last a.client
  served_used w i a h =
      let s = i.served_is a h in
      let r = i.sent (record { client = a.client; id = a.id; key = s.key }) s.read in
      i.used r.1.place a.client a.id r.0 s.key r.1.line

  -- ---- a client asks

  module _ (w : Exchange) (c o : ℕ) (key : List ℕ) (i : Consistent w) where
    abbrev n : ℕ
    n = w.last c + 1

    abbrev v : Exchange
    v = asked w c o key

    abbrev fresh : Line
    fresh = said.Read c n o key

    last_rises : (d : ℕ) → w.last d ≤ v.last d
    last_rises d = elim (cases_eq d c) [
      | inl same ↦
          let a : v.last d ≡ n = ap v.last same ∙ put-here w.last c n in
          let b : w.last d ≡ w.last c = ap w.last same in
          omega (arith, a, b)
      | inr other ↦ let a = put-other w.last c n d other in omega (arith, a)
    ]

    last_here : (d : ℕ) → d ≡ c → v.last d ≡ n
    last_here d same = ap v.last same ∙ put-here w.last c n

    asked_used : (k d id x : ℕ) (b : List ℕ) → slice_get v.lines k ≡ Some (said.Read d id x b) → id ≤ v.last d
    asked_used k d id x b h = elim (slice_get-push_cases w.lines fresh k (said.Read d id x b) h) [
      | inl old ↦ let a = i.used k d id x b old.1 in let up = last_rises d in omega (arith, a, up)
      | inr new ↦ let e = new.1 in let at : c ≡ d = cc in let is : n ≡ id = cc in let here = last_here d (sym at) in omega (arith, is, here)
    ]

    asked_apart : (k l d id x y : ℕ) (a b : List ℕ) → slice_get v.lines k ≡ Some (said.Read d id x a)
        → slice_get v.lines l ≡ Some (said.Read d id y b) → k ≡ l
    asked_apart k l d id x y a b h g =
        elim (slice_get-push_cases w.lines fresh k (said.Read d id x a) h) [
          | inl old ↦ elim (slice_get-push_cases w.lines fresh l (said.Read d id y b) g) [
            | inl also ↦ i.asked_once k l d id x y a b old.1 also.1
            | inr new ↦
                let e = new.1 in
                let at : c ≡ d = cc in
                let is : n ≡ id = cc in
                let u = i.used k d id x a old.1 in
                let s : w.last c ≡ w.last d = ap w.last at in
                absurd (omega (arith, is, u, s))
          ]
          | inr first ↦ elim (slice_get-push_cases w.lines fresh l (said.Read d id y b) g) [
            | inl old ↦
                let e = first.1 in
                let at : c ≡ d = cc in
                let is : n ≡ id = cc in
                let u = i.used l d id y b old.1 in
                let s : w.last c ≡ w.last d = ap w.last at in
                absurd (omega (arith, is, u, s))
            | inr second ↦ first.0 ∙ sym second.0
          ]
        ]

    asked_told : (k d id x p : ℕ) (result : List ℕ) → slice_get v.lines k ≡ Some (said.Answer d id x p result)
        → slice_get w.lines k ≡ Some (said.Answer d id x p result)
    asked_told k d id x p result h = elim (slice_get-push_cases w.lines fresh k (said.Answer d id x p result) h) [
      | inl old ↦ old.1
      | inr new ↦ absurd (let e = new.1 in cc)
    ]

    open_cases : (P : ℕ → Reading → Type 0) → P c (record { id = n; observer = o; key = key })
        → ((d : ℕ) (p : Reading) → (d ≡ c → ⊥) → w.pending d ≡ Some p → P d p) → (d : ℕ) (p : Reading) → v.pending d ≡ Some p → P d p
    open_cases P here there d p e = elim (cases_eq d c) [
      | inl same ↦
          let got : v.pending d ≡ Some (record { id = n; observer = o; key = key }) =
          ap v.pending same ∙ put-here w.pending c (Some (record { id = n; observer = o; key = key })) in
          let is : record { id = n; observer = o; key = key } ≡ p = (let g = sym got ∙ e in cc) in
          subst (P d) is (subst (λ (x : ℕ). P x (record { id = n; observer = o; key = key })) (sym same) here)
      | inr other ↦ there d p other (sym (put-other w.pending c (Some (record { id = n; observer = o; key = key })) d other) ∙ e)
    ]

    pub asked_keeps : Consistent v
    asked_keeps = record {
      reached = i.reached;
      open_id = open_cases (λ d p. p.id ≡ v.last d) (sym (put-here w.last c n))
          (λ d p other e. i.open_id d p e ∙ sym (put-other w.last c n d other));
      open_read = open_cases (λ d p. HasRead v.lines d p.id p.observer p.key)
          (record { place = length w.lines; line = slice_get-append_at w.lines fresh [] })
          (λ d p other e. read_stays w.lines (fresh ∷ []) d p.id p.observer p.key (i.open_read d p e));
      sent = λ r h. elim (Has-push_cases w.reads (record { client = c; id = n; key = key }) r h) [
        | inl old ↦ (let s = i.sent r old in (s.0, read_stays w.lines (fresh ∷ []) r.client r.id s.0 r.key s.1))
        | inr new ↦ subst (λ (t : Read). (x : ℕ) × HasRead v.lines t.client t.id x t.key) new
            (o, record { place = length w.lines; line = slice_get-append_at w.lines fresh [] })
      ];
      used = asked_used;
      asked_once = asked_apart;
      served_is = λ a h. (let s = i.served_is a h in record {
        key = s.key;
        read = Has-append_left w.reads _ _ s.read;
        right = s.right;
      });
      told_is = λ k d id x p result h. (let t = i.told_is k d id x p result (asked_told k d id x p result h) in record {
        answer = t.answer;
        key = t.key;
        read = read_stays w.lines (fresh ∷ []) d id x t.key t.read;
        before = t.before;
      });
      told_old = λ k d id x p result h q g. open_cases (λ e q. e ≡ d → id < q.id)
          (λ same. let u = told_used w i k d id x p result (asked_told k d id x p result h) in
          let s : w.last c ≡ w.last d = ap w.last same in omega (arith, u, s))
          (λ e q other g same. i.told_old k d id x p result (asked_told k d id x p result h) q (ap w.pending (sym same) ∙ g)) d q g refl;
      told_once = λ k l d id x y p q a b h g. i.told_once k l d id x y p q a b (asked_told k d id x p a h) (asked_told l d id y q b g);
      later = λ k l d e j m x p y result b a less h g ha client id observer.
          elim (slice_get-push_cases w.lines fresh l (said.Read e m y b) g) [
            | inl old ↦ i.later k l d e j m x p y result b a less (asked_told k d j x p result h) old.1 ha client id observer
            | inr new ↦
                let eq = new.1 in
                let at : c ≡ e = cc in
                let is : n ≡ m = cc in
                let u = served_used w i a ha in
                let s : w.last a.client ≡ w.last c = ap w.last (client ∙ sym at) in
                absurd (omega (arith, is, u, s, id))
          ];
    }

  -- ---- the read is sent again

  pub again_keeps : (w : Exchange) (c : ℕ) (p : Reading) → w.pending c ≡ Some p → Consistent w → Consistent (again w c p)
  again_keeps w c p is i = record {
    reached = i.reached;
    open_id = i.open_id;
    open_read = i.open_read;
    sent = λ r h. elim (Has-push_cases w.reads (record { client = c; id = p.id; key = p.key }) r h) [
      | inl old ↦ i.sent r old
      | inr new ↦ subst (λ (t : Read). (x : ℕ) × HasRead w.lines t.client t.id x t.key) new (p.observer, i.open_read c p is)
    ];
    used = i.used;
    asked_once = i.asked_once;
    served_is = λ a h. (let s = i.served_is a h in record {
      key = s.key;
      read = Has-append_left w.reads _ _ s.read;
      right = s.right;
    });
    told_is = λ k c id o p result h. (let t = i.told_is k c id o p result h in record {
      answer = t.answer;
      key = t.key;
      read = t.read;
      before = t.before;
    });
    told_old = i.told_old;
    told_once = i.told_once;
    later = i.later;
  }

  -- ---- an observer answers

  pub served_keeps : (w : Exchange) (o : ℕ) (r : Read) (result : List ℕ) → Has w.reads r
      → ReadIsRight m main (w.positions o) r.key result → Consistent w
      → Consistent (served w o r result)
  served_keeps w o r result has right i = record {
    reached = λ a h. elim (Has-push_cases w.answers answer a h) [
      | inl old ↦ i.reached a old
      | inr new ↦ subst (λ (t : Answer). t.position ≤ w.positions t.observer) new (omega arith)
    ];
    open_id = i.open_id;
    open_read = i.open_read;
    sent = i.sent;
    used = i.used;
    asked_once = i.asked_once;
    served_is = λ a h. elim (Has-push_cases w.answers answer a h) [
      | inl old ↦ (let s = i.served_is a old in record { key = s.key; read = s.read; right = s.right })
      | inr new ↦ subst (WasServed (served w o r result)) new (record { key = r.key; read = has; right = right })
    ];
    told_is = λ k c id x p res h. (let t = i.told_is k c id x p res h in record {
      answer = Has-append_left w.answers (answer ∷ []) _ t.answer;
      key = t.key;
      read = t.read;
      before = t.before;
    });
    told_old = i.told_old;
    told_once = i.told_once;
    later = λ k l c d j n x p y res key a less h g ha client id observer. elim (Has-push_cases w.answers answer a ha) [
      | inl old ↦ i.later k l c d j n x p y res key a less h g old client id observer
      | inr new ↦
          let t = i.told_is k c j x p res h in
          let before = i.reached _ t.answer in
          let at : a.position ≡ w.positions o = ap (λ (t : Answer). t.position) (sym new) in
          let whose : x ≡ o = sym observer ∙ ap (λ (t : Answer). t.observer) (sym new) in
          let there : w.positions x ≡ w.positions o = ap w.positions whose in
          omega (arith, before, at, there)
    ];
  }
    where
      answer : Answer
      answer = record { observer = o; position = w.positions o; client = r.client; id = r.id; result = result }

  -- ---- a client is told

  module _ (w : Exchange) (a : Answer) (has : Has w.answers a) (awaits : Awaits (w.pending a.client) a) (i : Consistent w) where
    abbrev u : Exchange
    u = told w a

    abbrev new_line : Line
    new_line = said.Answer a.client a.id a.observer a.position a.result

    told_asks : (k c id o : ℕ) (key : List ℕ) → slice_get u.lines k ≡ Some (said.Read c id o key)
        → slice_get w.lines k ≡ Some (said.Read c id o key)
    told_asks k c id o key h = elim (slice_get-push_cases w.lines new_line k (said.Read c id o key) h) [
      | inl old ↦ old.1
      | inr new ↦ absurd (let e = new.1 in cc)
    ]

    still_open : (c : ℕ) (p : Reading) → u.pending c ≡ Some p → (c ≡ a.client → ⊥) × (w.pending c ≡ Some p)
    still_open c p e = elim (cases_eq c a.client) [
      | inl same ↦ absurd (let none : u.pending c ≡ None = ap u.pending same ∙ put-here w.pending a.client None in let g = sym none ∙ e in cc)
      | inr other ↦ (other, sym (put-other w.pending a.client None c other) ∙ e)
    ]

    -- its read line
    asked_for : HasRead w.lines a.client a.id a.observer awaits.pending.key
    asked_for =
        let r = i.open_read a.client awaits.pending awaits.is in
        record {
          place = r.place;
          line = r.line ∙ ap (λ (n : ℕ). Some (said.Read a.client n awaits.pending.observer awaits.pending.key)) (sym awaits.id)
              ∙ ap (λ (n : ℕ). Some (said.Read a.client a.id n awaits.pending.key)) (sym awaits.observer);
        }

    -- it was not told before
    not_before : (k o p : ℕ) (result : List ℕ) → slice_get w.lines k ≡ Some (said.Answer a.client a.id o p result) → ⊥
    not_before k o p result h =
        let low = i.told_old k a.client a.id o p result h awaits.pending awaits.is in omega (arith, low, awaits.id)

    told_was : (k c id o p : ℕ) (result : List ℕ) → slice_get u.lines k ≡ Some (said.Answer c id o p result) → WasTold u k c id o p result
    told_was k c id o p result h = elim (slice_get-push_cases w.lines new_line k (said.Answer c id o p result) h) [
      | inl old ↦ (let t = i.told_is k c id o p result old.1 in record {
        answer = t.answer;
        key = t.key;
        read = read_stays w.lines (new_line ∷ []) c id o t.key t.read;
        before = t.before;
      })
      | inr (at, e) ↦ by k at c id o p result e
    ]
      where
        by : (k : ℕ) → k ≡ length w.lines → (c id o p : ℕ) (result : List ℕ) → new_line ≡ said.Answer c id o p result
            → WasTold u k c id o p result
        by k at c id o p result e =
            let d : a.client ≡ c = cc in
            let n : a.id ≡ id = cc in
            let x : a.observer ≡ o = cc in
            let q : a.position ≡ p = cc in
            let b : a.result ≡ result = cc in
            rw (← d, ← n, ← x, ← q, ← b) (record {
              answer = has;
              key = awaits.pending.key;
              read = read_stays w.lines (new_line ∷ []) a.client a.id a.observer awaits.pending.key asked_for;
              before = let l = slice_get_within w.lines asked_for.place _ asked_for.line in omega (arith, l, at);
            })

    told_apart : (k l c id o x p q : ℕ) (b d : List ℕ) → slice_get u.lines k ≡ Some (said.Answer c id o p b)
        → slice_get u.lines l ≡ Some (said.Answer c id x q d) → k ≡ l
    told_apart k l c id o x p q b d h g =
        elim (slice_get-push_cases w.lines new_line k (said.Answer c id o p b) h) [
          | inl old ↦ elim (slice_get-push_cases w.lines new_line l (said.Answer c id x q d) g) [
            | inl also ↦ i.told_once k l c id o x p q b d old.1 also.1
            | inr new ↦ absurd (let e = new.1 in
                let s : a.client ≡ c = cc in
                let n : a.id ≡ id = cc in
                not_before k o p b (rw (s, n) old.1))
          ]
          | inr first ↦ elim (slice_get-push_cases w.lines new_line l (said.Answer c id x q d) g) [
            | inl old ↦ absurd (let e = first.1 in
                let s : a.client ≡ c = cc in
                let n : a.id ≡ id = cc in
                not_before l x q d (rw (s, n) old.1))
            | inr second ↦ first.0 ∙ sym second.0
          ]
        ]

    pub told_keeps : Consistent u
    told_keeps = record {
      reached = i.reached;
      open_id = λ c p e. i.open_id c p (still_open c p e).1;
      open_read = λ c p e. read_stays w.lines (new_line ∷ []) c p.id p.observer p.key (i.open_read c p (still_open c p e).1);
      sent = λ r h. (let s = i.sent r h in (s.0, read_stays w.lines (new_line ∷ []) r.client r.id s.0 r.key s.1));
      used = λ k c id o key h. i.used k c id o key (told_asks k c id o key h);
      asked_once = λ k l c id o x b d h g. i.asked_once k l c id o x b d (told_asks k c id o b h) (told_asks l c id x d g);
      served_is = λ b h. (let s = i.served_is b h in record { key = s.key; read = s.read; right = s.right });
      told_is = told_was;
      told_old = λ k c id o p result h q e. elim (slice_get-push_cases w.lines new_line k (said.Answer c id o p result) h) [
        | inl old ↦ i.told_old k c id o p result old.1 q (still_open c q e).1
        | inr new ↦ absurd ((still_open c q e).0 (let g = new.1 in let s : a.client ≡ c = cc in sym s))
      ];
      told_once = told_apart;
      later = λ k l c d j n o p x result key b less h g hb client id observer.
          elim (slice_get-push_cases w.lines new_line k (said.Answer c j o p result) h) [
            | inl old ↦ i.later k l c d j n o p x result key b less old.1 (told_asks l d n x key g) hb client id observer
            | inr new ↦ absurd (let s = slice_get_within w.lines l _ (told_asks l d n x key g) in omega (arith, less, s, new.0))
          ];
    }

  -- ---- an observer comes further

  rises : (f : ℕ → ℕ) (o q x : ℕ) → f o ≤ q → f x ≤ put f o q x
  rises f o q x l = elim (cases_eq x o) [
    | inl same ↦ let e : put f o q x ≡ q = ap (put f o q) same ∙ put-here f o q in let d : f x ≡ f o = ap f same in omega (arith, e, d, l)
    | inr other ↦ let e = put-other f o q x other in omega (arith, e)
  ]

  pub risen_keeps : (w : Exchange) (o q : ℕ) → w.positions o ≤ q → Consistent w → Consistent (risen w o q)
  risen_keeps w o q l i = record {
    reached = λ a h. let up = rises w.positions o q a.observer l in let at = i.reached a h in omega (arith, at, up);
    open_id = i.open_id;
    open_read = i.open_read;
    sent = i.sent;
    used = i.used;
    asked_once = i.asked_once;
    served_is = λ a h. (let s = i.served_is a h in record { key = s.key; read = s.read; right = s.right });
    told_is = λ k c id x p res h. (let t = i.told_is k c id x p res h in record {
      answer = t.answer;
      key = t.key;
      read = t.read;
      before = t.before;
    });
    told_old = i.told_old;
    told_once = i.told_once;
    later = i.later;
  }

  -- ---- other lines

  -- a line that asks for a key, or answers, is none of them
  not_passed : (ls more : List Line) (k : ℕ) (l : Line) → AreSilentLines more → is_read l ≡ true → slice_get (ls ++ more) k ≡ Some l
      → slice_get ls k ≡ Some l
  not_passed ls more k l silent talks h = elim (slice_get-append_cases ls more k l h) [
    | inl old ↦ old.1
    | inr new ↦ absurd (let none = silent l (new.0, new.2) in cc)
  ]

  pub passed_keeps : (w : Exchange) (more : List Line) → AreSilentLines more → Consistent w → Consistent (passed w more)
  passed_keeps w more silent i = record {
    reached = i.reached;
    open_id = i.open_id;
    open_read = λ c p e. read_stays w.lines more c p.id p.observer p.key (i.open_read c p e);
    sent = λ r h. (let s = i.sent r h in (s.0, read_stays w.lines more r.client r.id s.0 r.key s.1));
    used = λ k c id o key h. i.used k c id o key (not_passed w.lines more k (said.Read c id o key) silent refl h);
    asked_once = λ k l c id o x a b h g. i.asked_once k l c id o x a b (not_passed w.lines more k (said.Read c id o a) silent refl h)
        (not_passed w.lines more l (said.Read c id x b) silent refl g);
    served_is = λ a h. (let s = i.served_is a h in record { key = s.key; read = s.read; right = s.right });
    told_is = λ k c id o p result h.
        (let t = i.told_is k c id o p result (not_passed w.lines more k (said.Answer c id o p result) silent refl h) in record {
          answer = t.answer;
          key = t.key;
          read = read_stays w.lines more c id o t.key t.read;
          before = t.before;
        });
    told_old = λ k c id o p result h.
        i.told_old k c id o p result (not_passed w.lines more k (said.Answer c id o p result) silent refl h);
    told_once = λ k l c id o x p q a b h g.
        i.told_once k l c id o x p q a b (not_passed w.lines more k (said.Answer c id o p a) silent refl h)
        (not_passed w.lines more l (said.Answer c id x q b) silent refl g);
    later = λ k l c d j n o p x result key a less h g.
        i.later k l c d j n o p x result key a less (not_passed w.lines more k (said.Answer c j o p result) silent refl h)
        (not_passed w.lines more l (said.Read d n x key) silent refl g);
  }

  -- ---- at first nothing was asked

  pub opens : Consistent opening
  opens = record {
    reached = λ a h. absurd (let e = h.1 in cc);
    open_id = λ c p e. absurd cc;
    open_read = λ c p e. absurd cc;
    sent = λ r h. absurd (let e = h.1 in cc);
    used = λ i c id o key h. absurd cc;
    asked_once = λ i j c id o x a b h g. absurd cc;
    served_is = λ a h. absurd (let e = h.1 in cc);
    told_is = λ k c id o p result h. absurd cc;
    told_old = λ k c id o p result h. absurd cc;
    told_once = λ i j c id o x p q a b h g. absurd cc;
    later = λ k l c d i n o p x result key a less h. absurd cc;
  }

  -- ---- the lines are right

  pub lines_are_right : (w : Exchange) → Consistent w → ReadsAreRight m w.lines main
  lines_are_right w i = record {
    right = λ k c id o p result h.
        let t = i.told_is k c id o p result h in
        let s = i.served_is _ t.answer in
        let r = i.sent (record { client = c; id = id; key = s.key }) s.read in
        let same : t.read.place ≡ r.1.place = i.asked_once t.read.place r.1.place c id o r.0 t.key s.key t.read.line r.1.line in
        let both : Some (said.Read c id o t.key) ≡ Some (said.Read c id r.0 s.key) =
        sym t.read.line ∙ ap (λ (n : ℕ). slice_get w.lines n) same ∙ r.1.line in
        let key : t.key ≡ s.key = cc in
        record {
          key = t.key;
          asked = record { place = t.read.place; before = t.before; line = t.read.line };
          is = subst (λ (x : List ℕ). ReadIsRight m main p x result) (sym key) s.right;
        };
    asked = λ k l c id o x a b h g. i.asked_once k l c id o x a b h g;
    once = λ k l c id o x p q a b h g. i.told_once k l c id o x p q a b h g;
    rising = λ k l j c d x n o p q a b key less h g at.
        i.later k l c d x n o p o a key (record { observer = o; position = q; client = d; id = n; result = b }) less h g
        (i.told_is j d n o q b at).answer refl refl refl;
  }
