-- No public function's promise leaves a choice: for the same arguments, any two results that it admits are equal, and so are the
-- lent buffers at exit.
use mathlib.Core.Path.{◌≡◌, sym, ◌∙◌}
use borrow.Fn.Kinds.{Dens, res_t, ended_of}
use denote.Triple.Clauses.{AtExit}
use Rattle.basics.proofs.Choice.{OneResult}
use Rattle.encoder.proofs.Encoder.in_edition.Kinds as in-edition-kinds
use Rattle.encoder.proofs.Encoder.in_edition.Reads as in-edition
use Rattle.encoder.proofs.Encoder.new.Kinds as new-kinds
use Rattle.encoder.proofs.Encoder.new.Reads as new
use Rattle.encoder.proofs.EncoderDefault.default.Kinds as default-kinds
use Rattle.encoder.proofs.EncoderDefault.default.Reads as default
use Rattle.encoder.proofs.Encoder.encode.Kinds as encode-kinds
use Rattle.encoder.proofs.Encoder.encode.Reads as encode
use contract.Lifetimes.{Lfts}

pub one_in_edition : OneResult in-edition-kinds.ps in-edition-kinds.r in-edition.Post
one_in_edition κs a x y s t p q = p ∙ sym q

pub one_new : OneResult new-kinds.ps new-kinds.r new.Post
one_new κs a x y s t p q = p ∙ sym q

pub one_default : OneResult default-kinds.ps default-kinds.r default.Post
one_default κs a x y s t p q = p ∙ sym q

-- the encoder, the word and the two buffers: the buffers at exit are the third and the fourth
module _ (κs : Lfts 3) (a : Dens κs encode-kinds.ps) (x y : (res_t encode-kinds.r κs).Denot) (s t : AtExit (ended_of 3 encode-kinds.ps encode-kinds.r) κs)
    (p : encode.Post κs a x s) (q : encode.Post κs a y t) where
  pub one_encode : x ≡ y
  one_encode = p.answer ∙ sym q.answer

  pub one_primary : s.1.1.0.now ≡ t.1.1.0.now
  one_primary = p.primary ∙ rw one_encode (sym q.primary)

  pub one_alternate : s.1.1.1.0.now ≡ t.1.1.1.0.now
  one_alternate = p.alternate ∙ rw one_encode (sym q.alternate)
