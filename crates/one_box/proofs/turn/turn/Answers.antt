use Rattle.std.proofs.Common.{◌≡◌, ◌<◌, ◌≤◌, ◌∙◌, [], refl, arith, length, Some}
use Rattle.std.specs.Prelude.{slice_get, sum}
use Rattle.std.proofs.lemmas.List.{length-set}
use Rattle.std.proofs.lemmas.Option.{slice_get_read}
use Rattle.one_box.specs.Showing.{course_of, links_of}
use Rattle.one_box.proofs.Counting.{few_all, few_more, parts_set}
use Rattle.one_box.proofs.LeadingLemmas.{goes_through}
use Rattle.one_box.proofs.TurningLemmas.{none_turned, turned, all_turned, turn_stops, same_places, lost_set}
use Rattle.one_box.proofs.turn.turn.Goals as goal

pub loop-i-init : goal.loop-i-init
loop-i-init g c =
    let v = links_of g.L.Link in
    record {
      turns = λ ns shown. none_turned g.H.Host.meaning v
          c.args.ops.now c.args.now (course_of c.args.course.now) ns c.args.nodes.now.items shown;
      goes = λ config led. led;
      lost = λ fits. fits;
      places = refl;
      few = let none : sum [] ≡ 0 = refl in omega (arith, none);
      parts = refl;
      len = refl;
    }

pub returns-in-Err-clause-turns : goal.returns-in-Err-clause-turns
returns-in-Err-clause-turns g c =
    let v = links_of g.L.Link in
    let ys = c.loop-i.nodes.items in
    let x = c.index_mut-node.result.now in
    let within : c.loop-i.i < length ys =
    omega (arith, c.loop-i-test.true, c.len-i-end.ensures, c.args.nodes.now.ok.0, c.loop-i.invariant.len) in
    let found : slice_get ys c.loop-i.i ≡ Some x = slice_get_read ys (length ys) c.loop-i.i x refl within c.index_mut-node.ensures.value in
    turn_stops g.H.Host.meaning v
    c.args.ops.now c.args.now (course_of c.args.course.now) (course_of c.loop-i.course) (course_of c.node_turn.new.course)
    c.args.nodes.now.items ys c.loop-i.i x c.node_turn.new.node c.in-Err.e found within c.loop-i.invariant.turns c.in-Err.ensures.serves

pub returns-in-Err-clause-places : goal.returns-in-Err-clause-places
returns-in-Err-clause-places g c =
    let v = links_of g.L.Link in
    let ys = c.loop-i.nodes.items in
    let x = c.index_mut-node.result.now in
    let within : c.loop-i.i < length ys =
    omega (arith, c.loop-i-test.true, c.len-i-end.ensures, c.args.nodes.now.ok.0, c.loop-i.invariant.len) in
    let found : slice_get ys c.loop-i.i ≡ Some x = slice_get_read ys (length ys) c.loop-i.i x refl within c.index_mut-node.ensures.value in
    same_places v
    ys c.loop-i.i x c.node_turn.new.node found c.in-Err.ensures.place ∙ c.loop-i.invariant.places

pub loop-i-preserved : goal.loop-i-preserved
loop-i-preserved g c =
    let v = links_of g.L.Link in
    let ys = c.loop-i.nodes.items in
    let x = c.index_mut-node.result.now in
    let within : c.loop-i.i < length ys =
    omega (arith, c.loop-i-test.true, c.len-i-end.ensures, c.args.nodes.now.ok.0, c.loop-i.invariant.len) in
    let found : slice_get ys c.loop-i.i ≡ Some x = slice_get_read ys (length ys) c.loop-i.i x refl within c.index_mut-node.ensures.value in
    record {
      turns = λ ns shown. turned g.H.Host.meaning v
          c.args.ops.now c.args.now (course_of c.args.course.now) ns c.loop-i.i (course_of c.loop-i.course) ys x found within
          (course_of c.node_turn.new.course) c.node_turn.new.node (c.loop-i.invariant.turns ns shown) c.in_default.ensures.serves.does;
      goes = goes_through g.H.Host.meaning (course_of c.args.course.now) (course_of c.loop-i.course) (course_of c.node_turn.new.course)
          c.loop-i.invariant.goes c.in_default.ensures.serves.goes;
      lost = λ fits. lost_set v ys c.loop-i.i x c.node_turn.new.node found c.in_default.ensures.serves.lost (c.loop-i.invariant.lost fits);
      places = same_places v
          ys c.loop-i.i x c.node_turn.new.node found c.node_turn.ensures.place ∙ c.loop-i.invariant.places;
      few = few_more
          c.args.nodes.now.items ys c.loop-i.invariant.parts c.loop-i.i c.args.course.now.events.items c.loop-i.course.events.items
          c.node_turn.new.course.events.items x found c.loop-i.invariant.few c.in_default.ensures.few;
      parts = parts_set c.args.nodes.now.items ys c.loop-i.invariant.parts c.loop-i.i x c.node_turn.new.node found c.node_turn.ensures.part;
      len = length-set ys c.loop-i.i c.node_turn.new.node ∙ c.loop-i.invariant.len;
    }

pub returns-clause-turns : goal.returns-clause-turns
returns-clause-turns g c =
    let v = links_of g.L.Link in
    let past : length c.loop-i.nodes.items ≤ c.loop-i.i =
    omega (arith, c.loop-i-test.false, c.len-i-end.ensures, c.args.nodes.now.ok.0, c.loop-i.invariant.len) in
    record {
      does = λ ns shown. all_turned g.H.Host.meaning v c.args.ops.now c.args.now (course_of c.args.course.now) ns c.loop-i.i
          (course_of c.loop-i.course) c.loop-i.nodes.items past (c.loop-i.invariant.turns ns shown);
      goes = c.loop-i.invariant.goes;
      lost = c.loop-i.invariant.lost;
    }

pub returns-in-Err-clause-parts : goal.returns-in-Err-clause-parts
returns-in-Err-clause-parts g c =
    let ys = c.loop-i.nodes.items in
    let x = c.index_mut-node.result.now in
    let within : c.loop-i.i < length ys =
    omega (arith, c.loop-i-test.true, c.len-i-end.ensures, c.args.nodes.now.ok.0, c.loop-i.invariant.len) in
    let found : slice_get ys c.loop-i.i ≡ Some x = slice_get_read ys (length ys) c.loop-i.i x refl within c.index_mut-node.ensures.value in
    parts_set c.args.nodes.now.items ys c.loop-i.invariant.parts c.loop-i.i x c.node_turn.new.node found c.in-Err.ensures.part

pub returns-clause-few : goal.returns-clause-few
returns-clause-few g c =
    let past : length c.loop-i.nodes.items ≤ c.loop-i.i =
    omega (arith, c.loop-i-test.false, c.len-i-end.ensures, c.args.nodes.now.ok.0, c.loop-i.invariant.len) in
    few_all c.args.nodes.now.items c.loop-i.nodes.items c.loop-i.invariant.parts c.loop-i.i c.args.course.now.events.items
    c.loop-i.course.events.items past c.loop-i.invariant.few

pub returns-clause-parts : goal.returns-clause-parts
returns-clause-parts g c = c.loop-i.invariant.parts

pub returns-clause-places : goal.returns-clause-places
returns-clause-places g c = c.loop-i.invariant.places
