-- A `&` to a handle shows a share of its piece, and the value. Assumes `Logic`.
use denote.RattleType.{RattleType}
use denote.Param.Laws.{Laws}
use denote.Param.Shared.{copy_shared}
use denote.Struct.Field.{RawPtr-field}
use denote.Struct.Laws.{RawPtr-copy}
use denote.Struct.Lending.{of_Lends}
use Rattle.gn_block.specs.contracts.counted.Counted as C
use Rattle.gn_block.specs.Whole.{whole}
use Rattle.gn_block.proofs.counted.Counted.TheLaw.Statement.{statement}
use Rattle.gn_block.proofs.Lending.{handle_laws, Lends-handle}

pub shares : (T : RattleType) (L : Laws T) → statement T L
shares T L = of_Lends (C.struct T) (C.the_codes T.Denot T.coded) (C.the_heap T) (C.the_lent T) (λ d p. handle_laws T (whole T) L.shr_laws d.at d.value d.limit d.block) (copy_shared RawPtr-field RawPtr-copy, tt) (λ M 𝓤 𝓛 d p.
    Lends-handle 𝓛 T (whole T) L.shr_laws (C.the_row T).lives d.at d.value d.limit d.parts d.block)
