use Rattle.std.proofs.Common.{rules, refl, sym, subst, []}
use Rattle.cord_file.proofs.sources.Sources.new.Goals as goal
use Rattle.cord_file.specs.Blocks.{AreCached}
use Rattle.cord_file.specs.Files.{Each}
use Rattle.cord_file.proofs.BlockParts.{kept_none}
use Rattle.cord_file.specs.declared.files.OpenFile.{OpenFile}

-- nothing is claimed of no files
each_none : (P : OpenFile → Type 0) → Each P []
each_none P k file h = cc

pub invariant_of-result : goal.invariant_of-result
invariant_of-result g c = record {
  few = search rules;
  sound = record {
    handed_out = subst (Each _) (sym c.new-open_files.ensures.items) (each_none _);
    short_enough = subst (Each _) (sym c.new-open_files.ensures.items) (each_none _);
    there = subst (Each _) (sym c.new-open_files.ensures.items) (each_none _);
    as_long = subst (Each _) (sym c.new-open_files.ensures.items) (each_none _);
    cached = subst (λ b. AreCached (g.F.Files.consistent c.args.files) c.new-open_files.result.items b.entries) (sym c.in-Ok.ensures)
        (kept_none (g.F.Files.consistent c.args.files) c.new-open_files.result.items);
  };
}

pub returns-in_default : goal.returns-in_default
returns-in_default g c = record { made = (refl, refl) }
