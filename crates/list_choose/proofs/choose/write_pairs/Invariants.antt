use Rattle.std.proofs.Common.{◌≡◌, ◌++◌, map, get_or, take, drop}
use Rattle.list_choose.proofs.choose.write_pairs.Given as goal

abbrev pub invariant-loop-i : goal.invariant-loop-i
invariant-loop-i l = record {
  pages : l.out_pages ≡ map (λ e. get_or l.pages e 0) (take l.i l.entries) ++ drop l.i l.initial.out_pages;
  frames : l.out_frames ≡ map (λ e. get_or l.frames e 0) (take l.i l.entries) ++ drop l.i l.initial.out_frames;
}
