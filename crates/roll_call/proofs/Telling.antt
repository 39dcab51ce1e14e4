-- A round without lines leaves each node as it stands; and who only asks leaves no trace.
use Rattle.std.proofs.Common.{◌≡◌, ℕ, List, [], ◌∷◌, ◌++◌, Bool, true, false, cond, Option, Some, None, map, refl, ap, ◌∙◌, ◌==◌}
use Rattle.std.specs.List.{flat_map}
use Rattle.std.specs.Option.{option_or}
use Rattle.nop_types.specs.declared.output.Actor.{Actor}
use Rattle.admission.specs.Registries.{answered, Claims}
use Rattle.admission.proofs.Noting.{asks_note_nothing}
use Rattle.roll_call.specs.Lines.{node_line, standing_lines}
use Rattle.roll_call.specs.Nodes.{judged, marked, news_of}
use Rattle.roll_call.specs.Rolls.{Rolled, heard, judged_by, mark, news, news_by, port_in, question_by, standings, turned}
use Rattle.roll_call.specs.declared.node.Asked.{Asked}
use Rattle.roll_call.specs.declared.node.Standing.{Standing}

-- a line is not empty
no_line : (actor : Actor) (s : Option Standing) (rest : List ℕ) → standing_lines actor s ++ rest ≡ [] → (s ≡ None) × (rest ≡ [])
unfolding node_line
no_line actor None rest e = (refl, e)
no_line actor (Some s) rest e = absurd cc

-- without news a node stands as before
stays : (now : ℕ) (a : Asked) → news_of now a ≡ None → judged now a ≡ a
stays now a none = ap (λ (s : Option Standing). record a { standing = option_or s a.standing }) none

all_stay : (now : ℕ) (nodes : List Asked) → flat_map (λ (a : Asked). standing_lines a.node.actor (news_of now a)) nodes ≡ []
    → map (judged now) nodes ≡ nodes
all_stay now [] e = refl
all_stay now (a ∷ nodes) e =
    let rest : List ℕ = flat_map (λ (b : Asked). standing_lines b.node.actor (news_of now b)) nodes in
    let none = no_line a.node.actor (news_of now a) rest e in
    ap (λ (b : Asked). b ∷ map (judged now) nodes) (stays now a none.0) ∙ ap (λ (bs : List Asked). a ∷ bs) (all_stay now nodes none.1)

by_round : (asked : Option ℕ) (now : ℕ) (nodes : List Asked) → news_by asked now nodes ≡ [] → judged_by asked now nodes ≡ nodes
by_round None now nodes e = refl
by_round (Some at) now nodes e = all_stay now nodes e

pub silence_is_sameness : (r : Rolled) (now : ℕ) → news r now ≡ [] → (turned r now).nodes ≡ r.nodes
silence_is_sameness r now e = by_round r.asked now r.nodes e

-- ---- an answer

line_stays : (now : ℕ) (a : Asked) (b : Bool)
    → standing_lines (cond b (record a { answered = Some now }) a).node.actor (cond b (record a { answered = Some now }) a).standing
    ≡ standing_lines a.node.actor a.standing
line_stays now a true = refl
line_stays now a false = refl

lines_stay : (port now : ℕ) (nodes : List Asked)
    → flat_map (λ (a : Asked). standing_lines a.node.actor a.standing) (map (marked port now) nodes)
    ≡ flat_map (λ (a : Asked). standing_lines a.node.actor a.standing) nodes
lines_stay port now [] = refl
lines_stay port now (a ∷ nodes) =
    ap (λ (l : List ℕ). l ++ flat_map (λ (b : Asked). standing_lines b.node.actor b.standing) (map (marked port now) nodes))
    (line_stays now a (a.node.port == port))
    ∙ ap (λ (l : List ℕ). standing_lines a.node.actor a.standing ++ l) (lines_stay port now nodes)

marks_stay : (r : Rolled) (now : ℕ) (port : Option ℕ) → standings (record r { nodes = mark port now r.nodes }) ≡ standings r
marks_stay r now None = refl
marks_stay r now (Some port) = lines_stay port now r.nodes

pub answers_stay : (r : Rolled) (now : ℕ) (bytes : List ℕ) → standings (heard r now bytes) ≡ standings r
answers_stay r now bytes = marks_stay r now (port_in r.asker bytes)

pub no_trace : (r : Rolled) (kept : Claims) (source : Actor) (port : ℕ) → (answered kept source (question_by r.asker port)).0 ≡ kept
no_trace r kept source port = asks_note_nothing kept source (question_by r.asker port) refl
