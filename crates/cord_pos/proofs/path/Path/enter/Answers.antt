use Rattle.cord_pos.proofs.Common.{List, Place, Some, [], ap, arith, below, len_limit, len_of, length, length-map, node_of, place_of, sym, ◌++◌, ◌<◌}
use Rattle.cord_pos.proofs.Common.{◌∙◌, ◌∷◌, ◌≡◌}
use Rattle.cord_pos.proofs.Lemmas.{depth_limit, level_depth, set_inside}
use Rattle.cord_pos.proofs.path.Path.enter.Goals as goal

pub descend-requires : goal.descend-requires
descend-requires c =
    let root = node_of c.root-root.result in
    let sound = c.root-root.ensures.sound in
    let none : length c.args.self.now.stops.items ≡ 0 =
    sym (length-map c.args.self.now.stops.items place_of) ∙ ap length c.requires.empty in
    record {
      sound = sound;
      inside = rw c.root-root.ensures.root at c.requires.inside;
      fits = omega (arith, len_limit root sound);
      room = omega (arith, none, c.keep.ensures.len, depth_limit root sound);
      counted = omega (arith, c.root-root.ensures.count, c.keep.ensures.visits, c.requires.start);
    }

pub returns-clause-on_cord : goal.returns-clause-on_cord
returns-clause-on_cord c =
    let root = node_of c.root-root.result in
    rw c.root-root.ensures.root (record {
      sound = c.root-root.ensures.sound;
      inside = rw c.root-root.ensures.root at c.requires.inside;
      way = c.descend.ensures.places ∙ ap (λ (ps : List Place). ps ++ below root 0 c.args.index)
          (c.keep.ensures.places ∙ ap (λ (ps : List Place). ps ++ (Some root, 0) ∷ []) c.requires.empty);
      holder = c.descend.ensures.part;
      end = c.descend.ensures.end;
    })

pub returns-clause-visits : goal.returns-clause-visits
returns-clause-visits c =
    let root = node_of c.root-root.result in
    let sound = c.root-root.ensures.sound in
    let inside : c.args.index < len_of root = rw c.root-root.ensures.root at c.requires.inside in
    let more = set_inside c.args.tree.cord.now root c.args.index c.root-root.ensures.root inside in
    omega (
      arith,
      more,
      c.descend.ensures.visits,
      c.keep.ensures.visits,
      c.root-root.ensures.count,
      c.requires.start,
      level_depth root c.args.index sound,
      depth_limit root sound,
    )
