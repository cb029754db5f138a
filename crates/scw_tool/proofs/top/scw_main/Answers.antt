use Rattle.std.proofs.Common.{◌∙◌, map, option_map, sym, ap}
use Rattle.std.specs.String.{string_bytes}
use Rattle.scw_tool.specs.Job.{has_run}
use Rattle.scw_tool.proofs.PutLemmas.{taken_whole}
use Rattle.scw_tool.proofs.TopLemmas as top
use Rattle.scw_tool.proofs.top.scw_main.Goals as goal

pub returns-clause-headline : goal.returns-clause-headline
returns-clause-headline g c = λ m h. rw (c.into_outcome.ensures.status, c.into_outcome.ensures.files, c.into_outcome.ensures.steps) (top.headline_is _ c.answer_to-answer.result (c.answer_to-answer.ensures.comes (map string_bytes c.args.words.now.items) (rw c.as_slice.ensures.value at c.job_of-job.ensures)) m (ap has_run (sym c.into_outcome.ensures.status) ∙ h))

pub returns-clause-finished : goal.returns-clause-finished
returns-clause-finished g c = λ m h. top.finished_is _ c.answer_to-answer.result (c.answer_to-answer.ensures.comes (map string_bytes c.args.words.now.items) (rw c.as_slice.ensures.value at c.job_of-job.ensures)) m (sym c.into_outcome.ensures.status ∙ h)

pub returns-clause-shown : goal.returns-clause-shown
returns-clause-shown g c = λ m h. top.shown_is _ c.answer_to-answer.result (c.answer_to-answer.ensures.comes (map string_bytes c.args.words.now.items) (rw c.as_slice.ensures.value at c.job_of-job.ensures)) m (sym c.into_outcome.ensures.status ∙ h)

pub returns-clause-words : goal.returns-clause-words
returns-clause-words g c = rw c.into_outcome.ensures.status (top.words_are _ c.answer_to-answer.result (c.answer_to-answer.ensures.comes (map string_bytes c.args.words.now.items) (rw c.as_slice.ensures.value at c.job_of-job.ensures)))

pub returns-clause-read : goal.returns-clause-read
returns-clause-read g c = λ h. top.read_is _ c.answer_to-answer.result (c.answer_to-answer.ensures.comes (map string_bytes c.args.words.now.items) (rw c.as_slice.ensures.value at c.job_of-job.ensures)) (sym c.into_outcome.ensures.status ∙ h)

pub returns-clause-has : goal.returns-clause-has
returns-clause-has g c = λ calm. rw c.into_outcome.ensures.status (top.has_is _ c.answer_to-answer.result (c.answer_to-answer.ensures.comes (map string_bytes c.args.words.now.items) (rw c.as_slice.ensures.value at c.job_of-job.ensures)) calm)

pub returns-clause-write : goal.returns-clause-write
returns-clause-write g c = λ h. top.write_is _ c.answer_to-answer.result (c.answer_to-answer.ensures.comes (map string_bytes c.args.words.now.items) (rw c.as_slice.ensures.value at c.job_of-job.ensures)) (sym c.into_outcome.ensures.status ∙ h)

pub returns-clause-cut : goal.returns-clause-cut
returns-clause-cut g c = λ m h. top.cut_is _ c.answer_to-answer.result (c.answer_to-answer.ensures.comes (map string_bytes c.args.words.now.items) (rw c.as_slice.ensures.value at c.job_of-job.ensures)) m (sym c.into_outcome.ensures.status ∙ h)

pub returns-clause-cut_text : goal.returns-clause-cut_text
returns-clause-cut_text g c = λ m h. top.cut_text_is _ c.answer_to-answer.result (c.answer_to-answer.ensures.comes (map string_bytes c.args.words.now.items) (rw c.as_slice.ensures.value at c.job_of-job.ensures)) m (sym c.into_outcome.ensures.status ∙ h)

pub returns-clause-large : goal.returns-clause-large
returns-clause-large g c = λ _ h. top.large_is _ c.answer_to-answer.result (c.answer_to-answer.ensures.comes (map string_bytes c.args.words.now.items) (rw c.as_slice.ensures.value at c.job_of-job.ensures)) (sym c.into_outcome.ensures.status ∙ h)

pub returns-clause-thrown : goal.returns-clause-thrown
returns-clause-thrown g c = λ _ h. top.thrown_is _ c.answer_to-answer.result (c.answer_to-answer.ensures.comes (map string_bytes c.args.words.now.items) (rw c.as_slice.ensures.value at c.job_of-job.ensures)) (sym c.into_outcome.ensures.status ∙ h)

pub returns-clause-spent : goal.returns-clause-spent
returns-clause-spent g c = λ _ h. rw c.into_outcome.ensures.steps (top.spent_is _ c.answer_to-answer.result (c.answer_to-answer.ensures.comes (map string_bytes c.args.words.now.items) (rw c.as_slice.ensures.value at c.job_of-job.ensures)) (sym c.into_outcome.ensures.status ∙ h))

pub returns-clause-heap : goal.returns-clause-heap
returns-clause-heap g c = λ _ h. rw c.into_outcome.ensures.steps (top.heap_is _ c.answer_to-answer.result (c.answer_to-answer.ensures.comes (map string_bytes c.args.words.now.items) (rw c.as_slice.ensures.value at c.job_of-job.ensures)) (sym c.into_outcome.ensures.status ∙ h))

pub returns-clause-frames : goal.returns-clause-frames
returns-clause-frames g c = λ _ h. rw c.into_outcome.ensures.steps (top.frames_are _ c.answer_to-answer.result (c.answer_to-answer.ensures.comes (map string_bytes c.args.words.now.items) (rw c.as_slice.ensures.value at c.job_of-job.ensures)) (sym c.into_outcome.ensures.status ∙ h))

pub returns-clause-bad_class : goal.returns-clause-bad_class
returns-clause-bad_class g c = λ m. rw c.into_outcome.ensures.status (top.bad_class_is _ c.answer_to-answer.result (c.answer_to-answer.ensures.comes (map string_bytes c.args.words.now.items) (rw c.as_slice.ensures.value at c.job_of-job.ensures)) m)

pub returns-clause-not_built : goal.returns-clause-not_built
returns-clause-not_built g c = λ m. rw c.into_outcome.ensures.status (top.not_built_is _ c.answer_to-answer.result (c.answer_to-answer.ensures.comes (map string_bytes c.args.words.now.items) (rw c.as_slice.ensures.value at c.job_of-job.ensures)) m)

pub returns-clause-files : goal.returns-clause-files
returns-clause-files g c = λ h. c.into_outcome.ensures.files ∙ top.files_are _ c.answer_to-answer.result (c.answer_to-answer.ensures.comes (map string_bytes c.args.words.now.items) (rw c.as_slice.ensures.value at c.job_of-job.ensures)) (ap has_run (sym c.into_outcome.ensures.status) ∙ h)

pub returns-clause-steps : goal.returns-clause-steps
returns-clause-steps g c = λ h. c.into_outcome.ensures.steps ∙ top.steps_are _ c.answer_to-answer.result (c.answer_to-answer.ensures.comes (map string_bytes c.args.words.now.items) (rw c.as_slice.ensures.value at c.job_of-job.ensures)) (ap has_run (sym c.into_outcome.ensures.status) ∙ h)

pub returns-clause-nothing_run : goal.returns-clause-nothing_run
returns-clause-nothing_run g c = λ m. rw (c.into_outcome.ensures.files, c.into_outcome.ensures.steps) (top.nothing_run_is _ c.answer_to-answer.result (c.answer_to-answer.ensures.comes (map string_bytes c.args.words.now.items) (rw c.as_slice.ensures.value at c.job_of-job.ensures)) m)

pub returns-clause-known : goal.returns-clause-known
returns-clause-known g c = record { answer = c.answer_to-answer.result; is = c.into_outcome.ensures.status }

pub returns-clause-statuses : goal.returns-clause-statuses
returns-clause-statuses g c = λ m h. rw c.into_outcome.ensures.status (top.statuses_are _ c.answer_to-answer.result (c.answer_to-answer.ensures.comes (map string_bytes c.args.words.now.items) (rw c.as_slice.ensures.value at c.job_of-job.ensures)) m h)

pub returns-clause-out : goal.returns-clause-out
returns-clause-out g c = λ h. top.out_is _ c.answer_to-answer.result (c.answer_to-answer.ensures.comes (map string_bytes c.args.words.now.items) (rw c.as_slice.ensures.value at c.job_of-job.ensures)) (ap has_run (sym c.into_outcome.ensures.status) ∙ h)

pub returns-clause-complete : goal.returns-clause-complete
returns-clause-complete g c = λ ready. rw c.into_outcome.ensures.status (top.complete_is _ ready c.answer_to-answer.result (c.answer_to-answer.ensures.comes (map string_bytes c.args.words.now.items) (rw c.as_slice.ensures.value at c.job_of-job.ensures)))

pub returns-clause-complete_text : goal.returns-clause-complete_text
returns-clause-complete_text g c = λ class ready. rw c.into_outcome.ensures.status (top.complete_text_is _ c.answer_to-answer.result (c.answer_to-answer.ensures.comes (map string_bytes c.args.words.now.items) (rw c.as_slice.ensures.value at c.job_of-job.ensures)) class ready)

pub returns-clause-said : goal.returns-clause-said
returns-clause-said g c = λ calm. record {
  answer = c.answer_to-answer.result;
  comes = c.answer_to-answer.ensures.comes (map string_bytes c.args.words.now.items) (rw c.as_slice.ensures.value at c.job_of-job.ensures);
  number = c.into_outcome.ensures.status;
  files_are = c.into_outcome.ensures.files;
  steps_are = c.into_outcome.ensures.steps;
  put =
      taken_whole c.report.result (c.report.ensures.done (map string_bytes c.args.words.now.items) (c.file_of.ensures ∙ ap (option_map (λ j. j.1)) (rw c.as_slice.ensures.value at c.job_of-job.ensures))) c.report.ensures.rose calm;
}
