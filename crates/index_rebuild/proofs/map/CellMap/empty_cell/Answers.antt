use Rattle.index_rebuild.proofs.map.CellMap.empty_cell.Goals as goal

pub empty_by_map-requires : goal.empty_by_map-requires
empty_by_map-requires c = (c.args.self.now.words_tell, c.requires)

pub invariant_of-self : goal.invariant_of-self
invariant_of-self c = record { words_tell = c.empty_by_map.ensures.1.0 }

pub returns : goal.returns
returns c = (c.empty_by_map.ensures.0, c.empty_by_map.ensures.1.1)
