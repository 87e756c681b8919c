use Rattle.std.proofs.Common.{◌≡◌, ◌%◌, inl, inr, get_or, refl, sym, ◌∙◌, arith}
use Rattle.std.proofs.lemmas.List.{take_more_set}
use Rattle.list_gather.proofs.Gathering.{gathering_put, gathering_left}
use Rattle.list_gather.proofs.gather.Gathered.put.Goals as goal

pub returns-then-cell_of-page : goal.returns-then-cell_of-page
returns-then-cell_of-page c =
    let pages = c.args.pages.now in
    let slot = c.cell_of-page.result % 1024 in
    let guess = get_or c.args.self.now.guesses.now slot 0 in
    let same : get_or pages guess 0 ≡ get_or pages c.args.entry 0 = sym c.cell_of.ensures ∙ c.if-cell_of-page.true ∙ c.cell_of-page.ensures in
    (refl, (inl refl, λ d. gathering_left pages c.args.self.now c.args.entry slot c.requires.1 d (omega arith) (omega arith) same))

pub returns : goal.returns
returns c =
    let s = c.args.self.now in
    let slot = c.cell_of-page.result % 1024 in
    (refl, (inr (take_more_set s.list.now s.count c.args.entry c.requires.0), λ d. gathering_put c.args.pages.now _ _ c.args.entry slot c.requires.1 d c.requires.0 refl refl refl))
