-- A `&` to a name shows a share of it. Assumes `Logic`.
use denote.Struct.Lending.{of_Lends}
use Rattle.gn_block.specs.contracts.name.Name as C
use Rattle.gn_block.proofs.name.Name.TheLaw.Statement.{statement}
use Rattle.gn_block.proofs.Lending.{name_laws, Lends-name}

pub shares : statement
shares = of_Lends C.struct C.the_codes C.the_heap C.the_lent (λ d p. name_laws d.block) tt (λ M 𝓤 𝓛 d p. Lends-name 𝓛 C.the_row.lives d.block)
