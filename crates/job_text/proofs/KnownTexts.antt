-- Known texts, which hold the definitions to account: the job of a plane without rows, and its reply.
use Rattle.std.specs.Fmt.{digits}
use Rattle.std.specs.Prelude.{◌≡◌, ℕ, List, [], ◌∷◌, ◌++◌, length, pos, codes, refl}
use Rattle.poly_model.specs.LabelText.{labels_text}
use Rattle.poly_model.specs.ListingText.{entries_text, entry_text, vector_text}
use Rattle.poly_model.specs.declared.kind.WorkKind.TheVariants.{Subsets}
use Rattle.work_core.specs.ReplyLines.{row_line, job_line, lines_text}
use Rattle.job_text.specs.declared.job.JobHead.{JobHead}
use Rattle.job_text.specs.declared.reply.Tail.TheVariants.{End}
use Rattle.job_text.specs.Jobs.{text_of_job}
use Rattle.job_text.specs.Replies.{reply_head, tail_text}

abbrev plane : List ℕ
plane = codes "H-representation\nbegin\n0 3 integer\nend\n"

abbrev one_base : JobHead
one_base = record { work = Subsets; root = record { key = [] }; key = []; budget = record { bases = 1; depth = 0 } }

file_size : length plane ≡ 39
file_size = refl

job : text_of_job one_base plane
    ≡ codes "lrs-job 1 subsets\nroot 0\nkey 0\nbases 1\ndepth 0\ninput 39\nH-representation\nbegin\n0 3 integer\nend\n"
unfolding digits labels_text
job = refl

reply : reply_head []
    ++ (lines_text (row_line (pos 1 ∷ pos 0 ∷ pos 0 ∷ []) ∷ []) ++ tail_text (End (record { rows = 1; jobs = 0; bases = 1 })))
    ≡ codes "reply 0\nrow 1 0 0\nend 1 0 1\n"
unfolding digits labels_text entries_text entry_text vector_text
reply = refl

given_back : reply_head []
    ++ (lines_text (job_line (1 ∷ 2 ∷ []) ∷ job_line (1 ∷ 3 ∷ []) ∷ []) ++ tail_text (End (record { rows = 0; jobs = 2; bases = 4 })))
    ≡ codes "reply 0\njob 2 1 2\njob 2 1 3\nend 0 2 4\n"
unfolding digits labels_text
given_back = refl
