use Rattle.cord_lines.proofs.Common.{Indexed, ap, sym, ◌∙◌}
use Rattle.cord_lines.proofs.Countings.{alike}
use Rattle.cord_lines.proofs.Cuts.{cut_from, few_by, index_from, kept_mark, marked_from, modest_by, total_is}
use Rattle.cord_lines.proofs.index.LineIndex.follow.Goals as goal

pub find-found-requires : goal.find-found-requires
find-found-requires c = few_by c.self.inside.blocks c.self.invariant.0

pub known_of-known-requires-clause-found : goal.known_of-known-requires-clause-found
known_of-known-requires-clause-found c = record { modest = modest_by c.self.inside.blocks c.self.invariant.0; found = c.find-found.ensures }

pub returns-clause-index : goal.returns-clause-index
returns-clause-index c = λ x is given edit.
    let old = cut_from c.self.inside.blocks c.self.view_is is in
    let known = c.known_of-known.result in
    let cut = c.in_ok-renew.ensures.cut x old (c.known_of-known.ensures.removed x given) edit in
    let len = alike (c.counts-len.ensures ∙ total_is c.self.inside.blocks x old) in
    index_from c.renew.new.blocks c.lacks_end_after-self-inside.result known.mark c.args.after.now cut
    (c.lacks_end_after-self-inside.ensures x (sym len.bytes) (ap (λ (i : Indexed). i.lacks_end) c.self.view_is ∙ is.end) edit)
    (kept_mark x c.args.after.now c.args.edit.start c.args.edit.removed c.args.edit.inserted known.mark edit
    (c.known_of-known.ensures.mark.marked x (given, old, marked_from c.self.inside.blocks c.self.view_is is)) c.known_of-known.ensures.mark.from)
