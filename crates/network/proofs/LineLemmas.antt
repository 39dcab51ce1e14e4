-- The lines and datagrams of outputs, one after the other.
use Rattle.std.proofs.Common.{◌≡◌, ℕ, ◌+◌, ◌<◌, List, [], ◌∷◌, ◌++◌, length, take, drop, get_or, refl, sym, ap, subst}
use Rattle.std.proofs.Common.{◌∙◌, arith}
use Rattle.std.proofs.Common.{append_assoc, length-append}
use Rattle.std.proofs.lemmas.List.{append-nil, take_more, take-append-drop}
use Rattle.std.proofs.lemmas.List.Concat.{flat_map-append}
use Rattle.nop_types.specs.Lines as lines
use Rattle.nop_types.specs.Lines.{Line}
use Rattle.nop_types.specs.declared.output.Actor.{Actor}
use Rattle.nop_types.specs.declared.output.Out.{Out}
use Rattle.nop_types.specs.declared.output.Out.TheVariants as outs
use Rattle.lemmas.proofs.Counts.{count_by-append}
use Rattle.transcript_text.specs.Transcript.{line_text, lines_text}
use Rattle.network.specs.declared.lines.Tally.{Tally}
use Rattle.network.specs.LineCounts.{is_send, is_accept, Grows}
use Rattle.network.specs.Network.{Sent, SendsPrefix, sends_of, lines_from}

pub sends_of-append : (from : Actor) (xs ys : List Out) → sends_of from (xs ++ ys) ≡ sends_of from xs ++ sends_of from ys
sends_of-append from [] ys = refl
sends_of-append from (outs.Send dest bytes ∷ xs) ys =
    ap (λ (s : List Sent). record { from = from; dest = dest; bytes = bytes } ∷ s) (sends_of-append from xs ys)
sends_of-append from (_ ∷ xs) ys = sends_of-append from xs ys

at_count : (from : Actor) (n k : ℕ) (ys : List Out) → n ≡ k → lines_from from n ys ≡ lines_from from k ys
at_count from n k ys e = ap (λ (i : ℕ). lines_from from i ys) e

pub lines_from-append : (from : Actor) (n : ℕ) (xs ys : List Out) → lines_from from n (xs ++ ys) ≡ lines_from from n xs
    ++ lines_from from (n + length (sends_of from xs)) ys
lines_from-append from n [] ys = at_count from n (n + 0) ys (omega arith)
lines_from-append from n (outs.Send dest bytes ∷ xs) ys =
    ap (λ (l : List Line). lines.Send n from dest bytes ∷ l)
    (lines_from-append from (n + 1) xs ys
    ∙ ap (λ (l : List Line). lines_from from (n + 1) xs ++ l)
    (at_count from (n + 1 + length (sends_of from xs)) (n + length (sends_of from (outs.Send dest bytes ∷ xs))) ys (omega arith)))
lines_from-append from n (outs.Submitted r ∷ xs) ys = ap (λ (l : List Line). lines.Submit r ∷ l) (lines_from-append from n xs ys)
lines_from-append from n (outs.Accepted client id result ∷ xs) ys =
    ap (λ (l : List Line). lines.Accept client id result ∷ l) (lines_from-append from n xs ys)
lines_from-append from n (outs.Busy client ∷ xs) ys = ap (λ (l : List Line). lines.Busy client ∷ l) (lines_from-append from n xs ys)
lines_from-append from n (outs.Reading client id observer key ∷ xs) ys =
    ap (λ (l : List Line). lines.Read client id observer key ∷ l) (lines_from-append from n xs ys)
lines_from-append from n (outs.Answered client id observer position result ∷ xs) ys =
    ap (λ (l : List Line). lines.Answer client id observer position result ∷ l) (lines_from-append from n xs ys)
lines_from-append from n (outs.Trimmed first entries ∷ xs) ys = lines_from-append from n xs ys

pub Grows-then : (a b c : Tally) (xs ys : List Line) → Grows a b xs → Grows b c ys → Grows a c (xs ++ ys)
Grows-then a b c xs ys p q = record {
  text = q.text ∙ ap (λ (t : List ℕ). t ++ lines_text ys) p.text ∙ append_assoc a.text.items (lines_text xs) (lines_text ys)
      ∙ ap (λ (t : List ℕ). a.text.items ++ t) (sym (flat_map-append line_text xs ys));
  sends = omega (arith, p.sends, q.sends, count_by-append is_send xs ys);
  accepts = omega (arith, p.accepts, q.accepts, count_by-append is_accept xs ys);
}

pub record CarriedOut (from : Actor) (net net_new : List Sent) (a b : Tally) (done : List Out) : Type 0 where
  pub network : net_new ≡ net ++ sends_of from done
  pub lines : Grows a b (lines_from from (length net) done)

-- one more output was sent
pub sent_more : (from : Actor) (net mid last : List Sent) (all : List Out) (i : ℕ) (out : Out) → i < length all → out ≡ get_or all i out
    → mid ≡ net ++ sends_of from (take i all) → last ≡ mid ++ sends_of from (out ∷ []) → last ≡ net ++ sends_of from (take (i + 1) all)
sent_more from net mid last all i out lt is so_far sent =
    let done : List Out = take i all in
    let one : take (i + 1) all ≡ done ++ out ∷ [] = take_more all i out lt ∙ ap (λ (x : Out). done ++ x ∷ []) (sym is) in
    sent ∙ ap (λ (s : List Sent). s ++ sends_of from (out ∷ [])) so_far ∙ append_assoc net (sends_of from done) (sends_of from (out ∷ []))
    ∙ ap (λ (s : List Sent). net ++ s) (sym (sends_of-append from done (out ∷ [])) ∙ ap (sends_of from) (sym one))

-- one more output was carried out
pub carried_more : (from : Actor) (net mid last : List Sent) (a b c : Tally) (all : List Out) (i : ℕ) (out : Out) → i < length all
    → out ≡ get_or all i out
    → CarriedOut from net mid a b (take i all) → last ≡ mid ++ sends_of from (out ∷ [])
    → Grows b c (lines_from from (length mid) (out ∷ [])) → CarriedOut from net last a c (take (i + 1) all)
carried_more from net mid last a b c all i out lt is so_far sent more =
    let done : List Out = take i all in
    let one : take (i + 1) all ≡ done ++ out ∷ [] = take_more all i out lt ∙ ap (λ (x : Out). done ++ x ∷ []) (sym is) in
    let count : length mid ≡ length net + length (sends_of from done) = ap length so_far.network ∙ length-append net (sends_of from done) in
    let grown : Grows a c (lines_from from (length net) (done ++ out ∷ [])) =
    subst (Grows a c) (sym (lines_from-append from (length net) done (out ∷ [])))
    (Grows-then a b c (lines_from from (length net) done) _ so_far.lines
    (subst (λ (n : ℕ). Grows b c (lines_from from n (out ∷ []))) count more)) in
    record {
      network = sent_more from net mid last all i out lt is so_far.network sent;
      lines = subst (λ (os : List Out). Grows a c (lines_from from (length net) os)) (sym one) grown;
    }

-- an output of which a front was sent leaves a front of all of them
pub prefix_stays : (from : Actor) (net mid last : List Sent) (all : List Out) (i : ℕ) (out : Out) → i < length all → out ≡ get_or all i out
    → mid ≡ net ++ sends_of from (take i all) → SendsPrefix mid last (sends_of from (out ∷ [])) → SendsPrefix net last (sends_of from all)
prefix_stays from net mid last all i out lt is so_far prefix =
    let done : List Sent = sends_of from (take i all) in
    let left : List Sent = sends_of from (drop (i + 1) all) in
    let one : take (i + 1) all ≡ take i all ++ out ∷ [] = take_more all i out lt ∙ ap (λ (x : Out). take i all ++ x ∷ []) (sym is) in
    let parts : sends_of from all ≡ (done ++ sends_of from (out ∷ [])) ++ left =
    ap (sends_of from) (sym (take-append-drop (i + 1) all)) ∙ sends_of-append from (take (i + 1) all) (drop (i + 1) all)
    ∙ ap (λ (s : List Sent). s ++ left) (ap (sends_of from) one ∙ sends_of-append from (take i all) (out ∷ [])) in
    record {
      prefix = done ++ prefix.prefix;
      rest = prefix.rest ++ left;
      parts = parts ∙ ap (λ (s : List Sent). (done ++ s) ++ left) prefix.parts
          ∙ ap (λ (s : List Sent). s ++ left) (sym (append_assoc done prefix.prefix prefix.rest))
          ∙ append_assoc (done ++ prefix.prefix) prefix.rest left;
      sent = prefix.sent ∙ ap (λ (s : List Sent). s ++ prefix.prefix) so_far ∙ append_assoc net done prefix.prefix;
    }

-- where an output was not sent, those before it are a front
pub front_before : (from : Actor) (net mid last : List Sent) (all : List Out) (i : ℕ) (out : Out) → i < length all → out ≡ get_or all i out
    → mid ≡ net ++ sends_of from (take i all) → last ≡ mid → SendsPrefix net last (sends_of from all)
front_before from net mid last all i out lt is so_far same =
    prefix_stays from net mid last all i out lt is so_far
    (record { prefix = []; rest = sends_of from (out ∷ []); parts = refl; sent = same ∙ sym (append-nil mid) })
